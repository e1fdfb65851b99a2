-- The errors of the check of a module.
use Rattle.std.specs.Prelude.{◌≡◌, ◌⊎◌, ℕ, Bool, []}
use Rattle.ir_flags.specs.declared.settings.Settings.{Settings}
use Rattle.module_constants.specs.Constants.{IsConstantFault}
use Rattle.module_constants.specs.Expressions.{IsUntyped, IsConstExpressionFault}
use Rattle.module_constants.specs.Overrides.{IsOverrideFault}
use Rattle.typing_errors.specs.declared.const_expressions.ConstExpressionError.{ConstExpressionError}
use Rattle.typing_errors.specs.declared.const_expressions.ConstExpressionError.TheVariants as constant
use Rattle.ir_types.specs.found.Faults.{error_of, spans_of}
use Rattle.ir_types.specs.declared.refusal.Refusal.{Refusal}
use Rattle.ir_types.specs.declared.refusal.Refusal.TheVariants as refusal
use Rattle.ir_items.specs.judged.Plain.{PlainModule}
use Rattle.module_constants.specs.declared.expressions.InvalidGlobalExpression.{InvalidGlobalExpression}
use Rattle.module_handles.specs.Errors.{IsHandleError}
use Rattle.module_steps.specs.Validated.{IsRefusedFor}
use Rattle.module_steps.specs.declared.error.ModuleError.{ModuleError}
use Rattle.module_steps.specs.declared.error.ModuleError.TheVariants as error
use Rattle.spec_expressions.specs.judged.ModuleHandles.{HandlesOK}
use Rattle.judgement.specs.judged.ModuleSteps as step
use Rattle.judgement.specs.judged.ModuleSteps.{IsFirstFailing}
use Rattle.typing_layout.specs.judged.View.{type_tree}
use Rattle.typing_infos.specs.declared.refusal.TypingRefusal.{TypingRefusal}
use Rattle.typing_infos.specs.declared.refusal.TypingRefusal.TheVariants as typing
use Rattle.typing_layout.specs.found.Held.{IsFaultOf}

-- the type of a global expression can't be inferred, or all have types and this one is invalid
abbrev pub IsExpressionRefused : Settings → (resolved : Bool) → PlainModule → (handle : ℕ) → ConstExpressionError → Type 0
IsExpressionRefused s resolved m handle e =
    (IsFirstFailing s resolved m step.typing handle × IsUntyped m handle e)
    ⊎ (IsFirstFailing s resolved m step.expression handle × IsConstExpressionFault s.capabilities resolved m handle e)

-- Each error is that of the first failing step, at the first failing item, whose condition holds as the
-- error says.
abbrev pub IsModuleFault : Settings → (resolved : Bool) → PlainModule → ModuleError → Type 0
IsModuleFault s resolved m (error.InvalidHandle e) = IsHandleError m e × ¬ HandlesOK m
IsModuleFault s resolved m (error.Layouter e) = IsFirstFailing s resolved m step.layout e.ty × IsFaultOf (type_tree m.types e.ty) e.inner
IsModuleFault s resolved m (error.Typing e) = IsFirstFailing s resolved m step.type e.ty × IsRefusedFor s.capabilities resolved m.types e.ty e.error
IsModuleFault s resolved m (error.ConstExpression e) = IsExpressionRefused s resolved m e.expression e.error
IsModuleFault s resolved m (error.Constant e) = IsFirstFailing s resolved m step.constant e.constant × IsConstantFault m e.constant e.error
IsModuleFault s resolved m (error.Override e) = IsFirstFailing s resolved m step.override e.id × IsOverrideFault resolved m e.id e.error

-- the module has this error, with no span, or out of memory
abbrev pub IsRefusal : Settings → (resolved : Bool) → PlainModule → Refusal ModuleError → Type 0
IsRefusal s resolved m (refusal.Memory e) = Unit {0}
IsRefusal s resolved m (refusal.Fault f) = IsModuleFault s resolved m (error_of f) × (spans_of f ≡ [])

-- the error of type inference, as the error of the global expression
abbrev pub IsReportedAs : TypingRefusal → InvalidGlobalExpression → Type 0
IsReportedAs (typing.Memory e) x = ⊥
IsReportedAs (typing.Fault expression e) x = (x.expression ≡ expression) × (x.error ≡ constant.Typing e)

-- out of memory
abbrev pub IsOutOfMemory : TypingRefusal → Type 0
IsOutOfMemory (typing.Memory e) = Unit {0}
IsOutOfMemory (typing.Fault expression e) = ⊥
