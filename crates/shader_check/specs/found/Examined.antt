-- The validation result of a document, with the error if its module is invalid.
use Rattle.std.specs.Prelude.{◌≡◌, ◌↔◌, ◌⊎◌, Bool, false, IsTrue}
use Rattle.ir_flags.specs.declared.settings.Settings.{Settings}
use Rattle.document_reader.specs.judged.Plain.{PlainDocument}
use Rattle.typing_errors.specs.declared.const_expressions.ConstExpressionError.{ConstExpressionError}
use Rattle.typing_errors.specs.declared.const_expressions.ConstExpressionError.TheVariants as constant
use Rattle.function_modules.specs.Validated.{IsValidated}
pub use Rattle.function_modules.specs.Validated.{IsValidationFault}
pub use Rattle.function_modules.specs.FunctionErrors.{ValidationError}
use Rattle.function_modules.specs.FunctionErrors.error as error
use Rattle.ir_types.specs.found.Faults.{error_of}
use Rattle.ir_types.specs.declared.refusal.Refusal.{Refusal}
use Rattle.ir_types.specs.declared.refusal.Refusal.TheVariants as refusal
use Rattle.ir_items.specs.found.Copies.{spanned_module}
use Rattle.ir_items.specs.judged.Plain.{PlainModule}
use Rattle.ir_items.specs.found.View.{module_view}
use Rattle.ir_items.specs.declared.module.Module.{Module}
use Rattle.judgement.specs.judged.Steps.{IsPrepared, IsScopeStrict}
use Rattle.judgement.specs.declared.finding.Finding.{Finding}
use Rattle.judgement.specs.declared.finding.Finding.TheVariants.{Accepted, RefusedHandles, Refused}
use Rattle.judgement.specs.declared.finding.Step.{Step}
use Rattle.judgement.specs.declared.finding.Step.TheVariants.{Layout, «Type», Typing, Expression, Constant, Override, Global, Function, Entry}
use Rattle.judgement_report.specs.Reported.{IsReported}
use Rattle.function_modules.specs.ModuleSteps.{ModuleError}
use Rattle.function_modules.specs.ModuleSteps.error as module_error
use Rattle.shader_check.specs.declared.examined.Examined.{Examined}
use Rattle.shader_check.specs.declared.examined.Examined.TheVariants as examined

-- the step of an error of a global expression
abbrev pub step_of : ConstExpressionError → Step
step_of constant.NonConstOrOverride = Expression
step_of constant.NonFullyEvaluatedConst = Expression
step_of (constant.Compose e) = Expression
step_of (constant.Literal e) = Expression
step_of (constant.Typing e) = Typing
step_of constant.Other = Expression

-- the finding for an error of a step up to overrides
abbrev pub refused_early : ModuleError → Finding
refused_early (module_error.InvalidHandle e) = RefusedHandles
refused_early (module_error.Layouter e) = Refused Layout e.ty
refused_early (module_error.Typing e) = Refused «Type» e.ty
refused_early (module_error.ConstExpression e) = Refused (step_of e.error) e.expression
refused_early (module_error.Constant e) = Refused Constant e.constant
refused_early (module_error.Override e) = Refused Override e.id

-- the finding for a module error
abbrev pub refused_by : ValidationError → Finding
refused_by (error.Module e) = refused_early e
refused_by (error.GlobalVariable e) = Refused Global e.global
refused_by (error.Function e) = Refused Function e.function
refused_by (error.EntryPoint e) = Refused Entry e.index

-- the finding, without the error
abbrev pub finding_in : Examined → Finding
finding_in (examined.Accepted strict info) = Accepted strict
finding_in (examined.Refused e) = refused_by e

-- the module is invalid, with this error
abbrev pub IsRefusedSo : Refusal ValidationError → Examined → Type 0
IsRefusedSo (refusal.Memory e) x = ⊥
IsRefusedSo (refusal.Fault f) (examined.Accepted strict info) = ⊥
IsRefusedSo (refusal.Fault f) (examined.Refused e) = e ≡ error_of f

-- The module is valid, with this `ModuleInfo`, and strict scope was checked or not; or it is invalid, with this error.
abbrev pub IsExamined : Settings → PlainModule → Examined → Type 0
IsExamined s m (examined.Accepted strict info) = IsValidated s false m info × (IsTrue strict ↔ IsScopeStrict s.flags)
IsExamined s m (examined.Refused e) = IsValidationFault s false m e

-- The result for m, the document's module with missing returns inserted if requested.
pub record IsExaminedDocument (d : PlainDocument) (m : PlainModule) (x : Examined) : Type 0 where
  pub prepared : IsPrepared d.returns d.content m
  pub examined : IsExamined d.settings m x

-- A module m after an out-of-memory error: m with its spans, or m with missing returns inserted if requested.
abbrev pub IsLeft : (returns : Bool) → (m n : Module) → Type 0
IsLeft returns m n = (spanned_module n ≡ spanned_module m) ⊎ IsPrepared returns (module_view m) (module_view n)

-- the `ModuleInfo` is what the report requires
abbrev pub IsKeptIn : PlainModule → Examined → Type 0
IsKeptIn m (examined.Accepted strict info) = IsReported m info
IsKeptIn m (examined.Refused e) = Unit {0}
