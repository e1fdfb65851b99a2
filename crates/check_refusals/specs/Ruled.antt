-- The broken rule of an expression, for an error that names none.
use Rattle.std.specs.Prelude.{ℕ, Option, Some, None, IsSomeAnd, slice_get}
use Rattle.typing_errors.specs.declared.error.FunctionError.{FunctionError}
use Rattle.typing_errors.specs.declared.error.FunctionError.TheVariants as f
use Rattle.typing_errors.specs.declared.expressions.ExpressionError.TheVariants as expression
use Rattle.typing_errors.specs.declared.const_expressions.ConstExpressionError.TheVariants as value
use Rattle.check_sentences.specs.ModuleSteps.step as step
use Rattle.module_constants.specs.declared.expressions.InvalidGlobalExpression.{InvalidGlobalExpression}
use Rattle.function_entry_checks.specs.declared.error.EntryPointError.{EntryPointError}
use Rattle.function_entry_checks.specs.declared.error.EntryPointError.TheVariants as entry
use Rattle.check_sentences.specs.FunctionErrors.{ValidationError}
use Rattle.check_sentences.specs.FunctionErrors.refused as refused
use Rattle.check_causes.specs.Causes.{BrokenBy}
use Rattle.check_causes.specs.declared.expression.Cause.{Cause}
use Rattle.spec_statements.specs.judged.Scene.{Scene}

-- the expression of a function that breaks a rule of its kind
abbrev pub ruled_in : FunctionError → Option ℕ
ruled_in (f.Expression handle expression.Other) = Some handle
ruled_in (f.Expression handle (expression.Typing e)) = Some handle
ruled_in _ = None

abbrev pub ruled_entry : EntryPointError → Option ℕ
ruled_entry (entry.Function e) = ruled_in e
ruled_entry _ = None

abbrev pub ruled_value : InvalidGlobalExpression → Option ℕ
ruled_value e = elim e.error [ value.Other ↦ Some e.expression | value.Typing t ↦ Some e.expression | _ ↦ None ]

-- the expression that breaks a rule of its kind
abbrev pub ruled : ValidationError → Option ℕ
ruled (refused.Function e) = ruled_in e.error
ruled (refused.EntryPoint e) = ruled_entry e.error
ruled (refused.Module (step.ConstExpression e)) = ruled_value e
ruled _ = None

-- there is such an expression, and it breaks the rule at its handle
abbrev pub IsBrokenAt : Scene → (place : Option ℕ) → Cause → Type 0
IsBrokenAt s place cause = IsSomeAnd place (λ h. IsSomeAnd (slice_get s.expressions h) (λ e. BrokenBy s e cause))
