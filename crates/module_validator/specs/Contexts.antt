-- What the checks of one type and of one expression require of their contexts, after the steps of a module accept it.
use Rattle.std.specs.Prelude.{◌≡◌, Bool, length, map}
use Rattle.ir_flags.specs.declared.settings.Settings.{Settings}
use Rattle.judgement.specs.judged.ModuleSteps.{ModuleOK}
use Rattle.module_constants.specs.Known.{IsKnown as IsKnownOfValues, module_in}
use Rattle.module_constants.specs.declared.context.GlobalContext.{GlobalContext}
use Rattle.module_context.specs.OperandView.{IsKnown as IsKnownOfExpressions, expressions_in, types_in as types_among}
use Rattle.module_context.specs.declared.check_context.CheckContext.{CheckContext}
use Rattle.module_steps.specs.Reported.{IsInfoOf}
use Rattle.module_type_checks.specs.Known.{IsKnown as IsKnownOfTypes, types_in}
use Rattle.module_type_checks.specs.declared.context.TypeContext.{TypeContext}
use Rattle.ir_items.specs.judged.Plain.{PlainModule}
use Rattle.typing_errors.specs.Answers.{form_given}
use Rattle.typing_infos.specs.declared.info.ModuleInfo.{ModuleInfo}
use Rattle.typing_layout.specs.found.Held.{AreLayouts}
use Rattle.typing_layout.specs.judged.Constness.{AreKinds}

-- the context of a type, with the layouts of all types and the `TypeInfo`s of the result
abbrev pub TypesAreKnown : Type 0
TypesAreKnown = (s : Settings) (resolved : Bool) (m : PlainModule) (info : ModuleInfo) → ModuleOK s resolved m → IsInfoOf s resolved m info
    → (c : TypeContext) → types_in c ≡ m.types → AreLayouts m.types c.layouter.now → length c.layouter.now ≡ length m.types → c.infos.now ≡ info.types.items → IsKnownOfTypes c

-- that of a global expression, with the kinds of all, and the forms and the `TypeInfo`s of the result
abbrev pub ValuesAreKnown : Type 0
ValuesAreKnown = (s : Settings) (resolved : Bool) (info : ModuleInfo) (c : GlobalContext) → ModuleOK s resolved (module_in c) → IsInfoOf s resolved (module_in c) info
    → AreKinds (module_in c).global_expressions c.kinds.now → c.forms.now ≡ map (form_given (module_in c).types) info.const_expression_types.items → c.infos.now ≡ info.types.items → IsKnownOfValues c

-- that of an expression, with the kinds of all of its function, and the `TypeInfo`s of the result
abbrev pub ExpressionsAreKnown : Type 0
ExpressionsAreKnown = (s : Settings) (resolved : Bool) (m : PlainModule) (info : ModuleInfo) → ModuleOK s resolved m → IsInfoOf s resolved m info
    → (c : CheckContext) → types_among c ≡ m.types → AreKinds (expressions_in c) c.kinds.now → c.infos.now ≡ info.types.items → IsKnownOfExpressions c
