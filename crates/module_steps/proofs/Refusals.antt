-- Each error is that of the first failing step.
use Rattle.std.proofs.Common.{◌≡◌, Bool, inl, inr, List, sym, subst}
use Rattle.ir_flags.specs.declared.settings.Settings.{Settings}
use Rattle.module_constants.specs.Constants.{IsConstantFault}
use Rattle.module_constants.specs.Expressions.{IsConstExpressionFault, IsUntyped}
use Rattle.module_constants.specs.Overrides.{IsOverrideFault}
use Rattle.typing_errors.specs.declared.const_expressions.ConstExpressionError.TheVariants as expression_error
use Rattle.module_handles.specs.declared.error.InvalidHandleError.{InvalidHandleError}
use Rattle.ir_types.specs.found.Faults.{error_of}
use Rattle.ir_types.specs.declared.refusal.Refusal.{Refusal}
use Rattle.ir_types.specs.declared.refusal.Refusal.TheVariants as refusal
use Rattle.ir_types.specs.declared.with_span.WithSpan.{WithSpan}
use Rattle.ir_items.specs.judged.Plain.{PlainModule}
use Rattle.module_constants.specs.declared.constants.InvalidConstant.{InvalidConstant}
use Rattle.module_constants.specs.declared.expressions.InvalidGlobalExpression.{InvalidGlobalExpression}
use Rattle.module_handles.specs.Errors.{IsHandleError}
use Rattle.module_steps.specs.declared.listed_overrides.InvalidOverride.{InvalidOverride}
use Rattle.module_steps.specs.Validated.{IsFirstRefused as IsTypeRefused}
use Rattle.module_steps.specs.declared.validate.InvalidType.{InvalidType}
use Rattle.module_steps.proofs.Handles.{handle_refuted}
use Rattle.module_steps.proofs.StepLemmas.{not_laid, not_told, not_typed}
use Rattle.module_steps.specs.Faults.{IsModuleFault, IsReportedAs}
use Rattle.module_steps.specs.declared.error.ModuleError.TheVariants as error
use Rattle.spec_expressions.specs.judged.Context.{outside}
use Rattle.judgement.specs.judged.ModuleSteps as step
use Rattle.judgement.specs.judged.ModuleSteps.{IsReached, StepOK, item_count}
use Rattle.typing_infos.specs.Types.{IsFirstUntyped}
use Rattle.typing_infos.specs.declared.refusal.TypingRefusal.{TypingRefusal}
use Rattle.typing_infos.specs.declared.refusal.TypingRefusal.TheVariants as typing
use Rattle.typing_layout.specs.found.Held.{AreLayouts, IsRefused, IsRefusal}
use Rattle.typing_layout.specs.declared.error.LayoutError.{LayoutError}
use Rattle.typing_layout.specs.declared.layout.TypeLayout.{TypeLayout}
use Rattle.spec_expressions.specs.judged.Firsts.{FailsFirst}

pub by_handles : (s : Settings) (resolved : Bool) (m : PlainModule) (e : InvalidHandleError) → IsHandleError m e → IsModuleFault s resolved m (error.InvalidHandle e)
by_handles s resolved m e wrong = (wrong, handle_refuted m e wrong)

pub by_layout : (s : Settings) (resolved : Bool) (m : PlainModule) (layouts : List TypeLayout) (e : LayoutError) → IsReached s resolved m step.layout → AreLayouts m.types layouts → IsRefused m.types layouts e → IsModuleFault s resolved m (error.Layouter e)
by_layout s resolved m layouts e reached held refused = (record { reached = reached; item = not_laid s resolved m layouts e held refused }, refused.fault)

pub by_type : (s : Settings) (resolved : Bool) (m : PlainModule) (e : InvalidType) → IsReached s resolved m step.type → IsTypeRefused s.capabilities resolved m.types e → IsModuleFault s resolved m (error.Typing e)
by_type s resolved m e reached refused = (record { reached = reached; item = not_told s resolved m e refused }, refused.fault)

pub by_expression : (s : Settings) (resolved : Bool) (m : PlainModule) (e : InvalidGlobalExpression) → IsReached s resolved m step.expression → FailsFirst (item_count m step.expression) (StepOK s resolved m step.expression) e.expression
    → IsConstExpressionFault s.capabilities resolved m e.expression e.error → IsModuleFault s resolved m (error.ConstExpression e)
by_expression s resolved m e reached item fault = inr (record { reached = reached; item = item }, fault)

pub by_constant : (s : Settings) (resolved : Bool) (m : PlainModule) (e : InvalidConstant) → IsReached s resolved m step.constant → FailsFirst (item_count m step.constant) (StepOK s resolved m step.constant) e.constant → IsConstantFault m e.constant e.error → IsModuleFault s resolved m (error.Constant e)
by_constant s resolved m e reached item fault = (record { reached = reached; item = item }, fault)

pub by_override : (s : Settings) (resolved : Bool) (m : PlainModule) (e : InvalidOverride) → IsReached s resolved m step.override → FailsFirst (item_count m step.override) (StepOK s resolved m step.override) e.id → IsOverrideFault resolved m e.id e.error → IsModuleFault s resolved m (error.Override e)
by_override s resolved m e reached item fault = (record { reached = reached; item = item }, fault)

pub by_told : (s : Settings) (resolved : Bool) (m : PlainModule) (layouts : List TypeLayout) (r : Refusal LayoutError) (f : WithSpan LayoutError) (e : LayoutError) → r ≡ refusal.Fault f → e ≡ error_of f → IsReached s resolved m step.layout
    → AreLayouts m.types layouts → IsRefusal m.types layouts r → IsModuleFault s resolved m (error.Layouter e)
by_told s resolved m layouts r f e is same reached held told =
    let refused = subst (IsRefusal m.types layouts) is told in
    subst (λ d. IsModuleFault s resolved m (error.Layouter d)) (sym same) (by_layout s resolved m layouts (error_of f) reached held refused.0)

pub by_refusal : (s : Settings) (resolved : Bool) (m : PlainModule) (r : TypingRefusal) (x : InvalidGlobalExpression) → IsReached s resolved m step.typing → IsFirstUntyped (outside m) m.global_expressions r → IsReportedAs r x
    → IsModuleFault s resolved m (error.ConstExpression x)
by_refusal s resolved m (typing.Memory e) x reached first told = absurd told
by_refusal s resolved m (typing.Fault expression e) x reached first told =
    inl (
      record { reached = reached; item = subst (FailsFirst (item_count m step.typing) (StepOK s resolved m step.typing)) (sym told.0) (not_typed s resolved m expression e first) },
      subst (λ d. IsUntyped m x.expression d) (sym told.1) (subst (λ h. IsUntyped m h (expression_error.Typing e)) (sym told.0) first.tells),
    )
