-- The result of analyzing a function: its `FunctionInfo`, or a fault.
use Rattle.std.specs.Prelude.{◌≡◌, ℕ, List, [], Result, Ok, Err}
use Rattle.spec_expressions.specs.declared.uniformity.UniformityRequirements.{UniformityRequirements}
use Rattle.typing_infos.specs.declared.function_info.FunctionInfo.{FunctionInfo}
use Rattle.spec_expressions.specs.judged.Faults.{FunctionFault}
use Rattle.typing_errors.specs.declared.expressions.ExpressionError.TheVariants.{Typing, ExpectedGlobalOrArgument}
use Rattle.typing_errors.specs.declared.error.FunctionError.{FunctionError}
use Rattle.typing_errors.specs.declared.error.FunctionError.TheVariants.{Expression, NonUniformControlFlow}
use Rattle.typing_errors.specs.declared.disruptor.UniformityDisruptor.{UniformityDisruptor}
use Rattle.ir_types.specs.found.Faults.{error_of, spans_of}
use Rattle.ir_types.specs.declared.refusal.Refusal.{Refusal}
use Rattle.ir_types.specs.declared.refusal.Refusal.TheVariants as refusal
use Rattle.ir_flags.specs.declared.settings.ValidationFlags.{ValidationFlags}
use Rattle.ir_items.specs.judged.Plain.{PlainFunction, PlainModule}
use Rattle.spec_expressions.specs.judged.Summaries.{Summary, IsFormFault}
use Rattle.spec_expressions.specs.judged.Context.{inside}
use Rattle.typing_analysis.specs.Infos.{IsFunctionInfo}
use Rattle.typing_errors.specs.Answers.{fault_of, ReportsFault}
use Rattle.typing_errors.specs.declared.resolve_error.ResolveError.{ResolveError}

-- The faults that the analysis of a function finds, given the summaries of its callees: an expression
-- has no type, as the error reports; an image or sampler operand is of a wrong form; an operation that requires uniform
-- control flow is in non-uniform control flow.
pub data IsAnalysisFault (flags : ValidationFlags) (m : PlainModule) (f : PlainFunction) (summaries : List Summary) : FunctionError → Type 0 where
  untyped : {e : ℕ} {error : ResolveError} → ReportsFault (inside m f) f.expressions e (fault_of error) → IsAnalysisFault flags m f summaries (Expression e (Typing error))
  wrong_form : {e : ℕ} → IsFormFault f summaries e → IsAnalysisFault flags m f summaries (Expression e ExpectedGlobalOrArgument)
  non_uniform : {r : UniformityRequirements} {e : ℕ} {d : UniformityDisruptor} → FunctionFault flags m f (record { requirement = r.0; expression = e }) → IsAnalysisFault flags m f summaries (NonUniformControlFlow r e d)

-- out of memory, or the reported fault holds
abbrev pub IsAnalysisRefusal : ValidationFlags → PlainModule → PlainFunction → List Summary → Refusal FunctionError → Type 0
IsAnalysisRefusal flags m f summaries (refusal.Memory e) = Unit {0}
IsAnalysisRefusal flags m f summaries (refusal.Fault e) = IsAnalysisFault flags m f summaries (error_of e) × (spans_of e ≡ [])

-- the `FunctionInfo` of a function that has no fault
pub record IsAnalysed (flags : ValidationFlags) (m : PlainModule) (f : PlainFunction) (summaries : List Summary) (kept : FunctionInfo) : Type 0 where
  pub info : IsFunctionInfo m f summaries kept
  pub clear : (e : FunctionError) → IsAnalysisFault flags m f summaries e → ⊥

-- either of the two
abbrev pub IsProcessed : ValidationFlags → PlainModule → PlainFunction → List Summary → Result FunctionInfo (Refusal FunctionError) → Type 0
IsProcessed flags m f summaries (Ok info) = IsAnalysed flags m f summaries info
IsProcessed flags m f summaries (Err r) = IsAnalysisRefusal flags m f summaries r
