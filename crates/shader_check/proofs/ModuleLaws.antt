-- The error of a module is its validation result.
use Rattle.std.proofs.Common.{inl, inr, ℕ, false}
use Rattle.ir_flags.specs.declared.settings.Settings.{Settings}
use Rattle.typing_errors.specs.declared.const_expressions.ConstExpressionError.{ConstExpressionError}
use Rattle.typing_errors.specs.declared.const_expressions.ConstExpressionError.TheVariants as constant
use Rattle.ir_items.specs.judged.Plain.{PlainModule}
use Rattle.judgement.specs.judged.Steps.{IsFinding}
use Rattle.judgement.specs.declared.finding.Finding.TheVariants.{Refused}
use Rattle.function_modules.specs.ModuleSteps.{IsExpressionRefused, IsModuleFault, ModuleError}
use Rattle.function_modules.specs.ModuleSteps.error as error
use Rattle.function_modules.specs.Validated.{IsValidationFault}
use Rattle.function_modules.specs.FunctionErrors.{ValidationError}
use Rattle.function_modules.specs.FunctionErrors.error as validation
use Rattle.shader_check.specs.found.Examined.{step_of, refused_early, refused_by, finding_in, IsExamined}
use Rattle.shader_check.specs.declared.examined.Examined.{Examined}
use Rattle.shader_check.specs.declared.examined.Examined.TheVariants as examined

expression_is : (s : Settings) (m : PlainModule) (h : ℕ) (e : ConstExpressionError) → IsExpressionRefused s false m h e → IsFinding s m (Refused (step_of e) h)
expression_is s m h constant.NonConstOrOverride (inl x) = absurd x.1
expression_is s m h constant.NonConstOrOverride (inr x) = x.0
expression_is s m h constant.NonFullyEvaluatedConst (inl x) = absurd x.1
expression_is s m h constant.NonFullyEvaluatedConst (inr x) = x.0
expression_is s m h (constant.Compose e) (inl x) = absurd x.1
expression_is s m h (constant.Compose e) (inr x) = x.0
expression_is s m h (constant.Literal e) (inl x) = absurd x.1
expression_is s m h (constant.Literal e) (inr x) = x.0
expression_is s m h (constant.Typing e) (inl x) = x.0
expression_is s m h (constant.Typing e) (inr x) = absurd x.1
expression_is s m h constant.Other (inl x) = absurd x.1
expression_is s m h constant.Other (inr x) = absurd x.1

pub found_is : (s : Settings) (m : PlainModule) (e : ModuleError) → IsModuleFault s false m e → IsFinding s m (refused_early e)
found_is s m (error.InvalidHandle e) x = x.1
found_is s m (error.Layouter e) x = x.0
found_is s m (error.Typing e) x = x.0
found_is s m (error.ConstExpression e) x = expression_is s m e.expression e.error x
found_is s m (error.Constant e) x = x.0
found_is s m (error.Override e) x = x.0

refused_is : (s : Settings) (m : PlainModule) (e : ValidationError) → IsValidationFault s false m e → IsFinding s m (refused_by e)
refused_is s m (validation.Module e) x = found_is s m e x
refused_is s m (validation.GlobalVariable e) x = (x.0, x.1.first)
refused_is s m (validation.Function e) x = (x.0, x.1, x.2.first)
refused_is s m (validation.EntryPoint e) x = (x.0, x.1, x.2, x.3.first)

-- the result for a module with its error is that without it
pub found_of : (s : Settings) (m : PlainModule) (x : Examined) → IsExamined s m x → IsFinding s m (finding_in x)
found_of s m (examined.Accepted strict info) h = (h.0.ok, h.0.globals, h.0.functions.accepted, h.0.entries.accepted, h.1)
found_of s m (examined.Refused e) h = refused_is s m e h
