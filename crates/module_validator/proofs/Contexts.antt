-- The contexts of the checks of one type and of one expression.
use Rattle.std.proofs.Common.{◌≡◌, ◌≤◌, Bool, arith, length, sym, subst}
use Rattle.ir_flags.specs.declared.settings.Settings.{Settings}
use Rattle.ir_items.specs.judged.Plain.{PlainModule}
use Rattle.judgement.specs.judged.ModuleSteps.{ModuleOK}
use Rattle.module_context.specs.OperandView.{IsKnown as IsKnownOfExpressions, expressions_in, types_in as types_among}
use Rattle.module_context.specs.declared.check_context.CheckContext.{CheckContext}
use Rattle.module_steps.specs.Reported.{IsInfoOf}
use Rattle.module_type_checks.specs.Known.{AreInfos, IsKnown as IsKnownOfTypes, types_in}
use Rattle.module_type_checks.specs.declared.context.TypeContext.{TypeContext}
use Rattle.typing_handles.proofs.Ordered.{order_gives_conditions}
use Rattle.typing_infos.specs.declared.info.ModuleInfo.{ModuleInfo}
use Rattle.typing_layout.specs.declared.info.TypeInfo.{TypeInfo}
use Rattle.typing_layout.specs.TypingForms.{TypesGoBack}
use Rattle.typing_layout.specs.found.Held.{AreLayouts}
use Rattle.typing_layout.specs.judged.Constness.{AreKinds}

module _ (s : Settings) (resolved : Bool) (m : PlainModule) (info : ModuleInfo) (ok : ModuleOK s resolved m) (told : IsInfoOf s resolved m info) where
  infos_are : AreInfos m.types info.types.items
  infos_are = record { each = λ handle i at. (told.types.each handle i at).info }

  pub types_known : (c : TypeContext) → types_in c ≡ m.types → AreLayouts m.types c.layouter.now → length c.layouter.now ≡ length m.types → c.infos.now ≡ info.types.items → IsKnownOfTypes c
  types_known c same laid all given = record {
    back = subst TypesGoBack (sym same) (order_gives_conditions m ok.handles).types;
    held = subst (λ types. AreLayouts types c.layouter.now) (sym same) laid;
    told = subst (λ types. AreInfos types c.infos.now) (sym same) (subst (AreInfos m.types) (sym given) infos_are);
    laid = let many = told.types.many in subst (λ infos. length infos ≤ length c.layouter.now) (sym given) (omega (arith, many, all));
  }

  pub expressions_known : (c : CheckContext) → types_among c ≡ m.types → AreKinds (expressions_in c) c.kinds.now → c.infos.now ≡ info.types.items → IsKnownOfExpressions c
  expressions_known c same kinds given = record {
    told = subst (λ types. AreInfos types c.infos.now) (sym same) (subst (AreInfos m.types) (sym given) infos_are);
    many = subst (λ types. length c.infos.now ≡ length types) (sym same) (subst (λ infos. length infos ≡ length m.types) (sym given) told.types.many);
    kinds = kinds;
  }
