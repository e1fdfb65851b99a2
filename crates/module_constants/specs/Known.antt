-- Requirements of the checks of global expressions, constants and overrides.
use Rattle.std.specs.Prelude.{◌≡◌, ◌<◌, ◌↔◌, ℕ, List, Some, Bool, IsTrue, length, slice_get}
use Rattle.ir_types.specs.judged.ExpressionPlain.{compose}
use Rattle.ir_items.specs.judged.GlobalPlain.{PlainConstant, PlainOverride}
use Rattle.ir_items.specs.judged.Plain.{PlainModule}
use Rattle.ir_items.specs.found.View.{module_view}
use Rattle.module_constants.specs.declared.context.GlobalContext.{GlobalContext}
use Rattle.typing_rules.specs.judged.Laws.{IsAmong}
use Rattle.spec_expressions.specs.judged.Typing.{HasGlobalType}
use Rattle.module_type_checks.specs.Known.{AreInfos}
use Rattle.typing_forms.specs.judged.Forms.{form_of_type}
use Rattle.typing_forms.specs.declared.form.Form.{Form}
use Rattle.typing_layout.specs.judged.Constness.{AreKinds}

abbrev pub module_in : GlobalContext → PlainModule
module_in c = module_view c.«module».now

-- each form is that of the type of the global expression at its index
pub record AreTyped (m : PlainModule) (forms : List Form) : Type 0 where
  pub many : length forms ≡ length m.global_expressions
  pub each : (handle : ℕ) (t : Form) → slice_get forms handle ≡ Some t → HasGlobalType m handle t

-- the types and global expressions that constants, overrides and `Compose` name exist
pub record AreThere (m : PlainModule) : Type 0 where
  pub constant_types : (handle : ℕ) (c : PlainConstant) → slice_get m.constants handle ≡ Some c → c.ty < length m.types
  pub constant_values : (handle : ℕ) (c : PlainConstant) → slice_get m.constants handle ≡ Some c → c.init < length m.global_expressions
  pub override_types : (handle : ℕ) (o : PlainOverride) → slice_get m.overrides handle ≡ Some o → o.ty < length m.types
  pub override_values : (handle init : ℕ) (o : PlainOverride) → slice_get m.overrides handle ≡ Some o → o.init ≡ Some init → init < length m.global_expressions
  pub components : (handle type component : ℕ) (all : List ℕ) → slice_get m.global_expressions handle ≡ Some (compose type all) → IsAmong component all → component < length m.global_expressions

-- every global expression has a kind and a type, and every type a `TypeInfo`
pub record IsKnown (c : GlobalContext) : Type 0 where
  pub there : AreThere (module_in c)
  pub kinds : AreKinds (module_in c).global_expressions c.kinds.now
  pub typed : AreTyped (module_in c) c.forms.now
  pub many : length c.infos.now ≡ length (module_in c).types
  pub told : AreInfos (module_in c).types c.infos.now

-- the bool is whether the global expression has the type at a handle
pub record IsJudged (m : PlainModule) (expression type : ℕ) (is : Bool) : Type 0 where
  pub t : Form
  pub typed : HasGlobalType m expression t
  pub told : IsTrue is ↔ (t ≡ form_of_type m.types type)
