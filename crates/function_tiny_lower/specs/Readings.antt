-- The results of the layer for a function.
use Rattle.std.specs.Prelude.{◌≡◌, ℕ, Bool, false, IsTrue, List, [], Option, Some, None, option_map, slice_get}
use Rattle.typing_errors.specs.declared.expressions.ExpressionError.{ExpressionError}
use Rattle.typing_errors.specs.declared.expressions.ExpressionError.TheVariants.{Other}
use Rattle.typing_errors.specs.declared.error.FunctionError.{FunctionError}
use Rattle.typing_errors.specs.declared.error.FunctionError.TheVariants.{Expression}
use Rattle.function_interface.specs.Analysis.{Faults}
use Rattle.function_interface.specs.Question.{Question}
use Rattle.function_interface.specs.Reported.{AreReported}
use Rattle.ir_types.specs.judged.ExpressionPlain.{PlainExpression}
use Rattle.ir_flags.specs.declared.stages.ShaderStages.{ShaderStages}
use Rattle.ir_items.specs.judged.Plain.{PlainFunction, PlainModule}
use Rattle.spec_statements.specs.judged.ExpressionStages.{all_stages, callee_stages}
use Rattle.spec_statements.specs.judged.Functions.{Reading}
use Rattle.function_tiny_lower.specs.Known.{known_of}
use Rattle.function_tiny_lower.specs.Operations.{fits}
use Rattle.function_tiny_lower.specs.Typing.{HasForm, IsUntyped}
use Rattle.function_tiny_lower.specs.declared.known.Known.{Known}
use Rattle.function_tiny_lower.specs.declared.known.Known.TheVariants as known
use Rattle.typing_layout.specs.declared.info.TypeInfo.{TypeInfo}
use Rattle.typing_forms.specs.declared.form.Form.{Form}
use Rattle.typing_forms.specs.declared.resolution.TypeResolution.{TypeResolution}
use Rattle.typing_errors.specs.Answers.{form_given}

-- The module has no global variables, and these are the `TypeInfo`s of its types.
pub record IsMadeOf (m : PlainModule) (infos : List TypeInfo) : Type 0 where
  pub told : AreReported m.types infos
  pub no_globals : m.globals ≡ []

-- The form is that of the given type of the global expression.
pub record IsGiven (m : PlainModule) (types : List TypeResolution) (expression : ℕ) (of : Form) : Type 0 where
  pub type : TypeResolution
  pub given : slice_get types expression ≡ Some type
  pub form : of ≡ form_given m.types type

-- the result of a call can be read where the function may run, all else everywhere
abbrev pub stages_in : (callees : List ShaderStages) → Option Known → ShaderStages
stages_in callees None = all_stages
stages_in callees (Some (known.Literal value)) = all_stages
stages_in callees (Some (known.ZeroValue type)) = all_stages
stages_in callees (Some (known.FunctionArgument place)) = all_stages
stages_in callees (Some (known.Unary op expr)) = all_stages
stages_in callees (Some (known.Binary op left right)) = all_stages
stages_in callees (Some (known.Select condition accept reject)) = all_stages
stages_in callees (Some (known.CallResult function)) = callee_stages callees function

abbrev pub stages_by : (callees : List ShaderStages) → PlainExpression → ShaderStages
stages_by callees expression = stages_in callees (known_of expression)

abbrev pub IsRunBy : List ShaderStages → PlainFunction → ℕ → ShaderStages → Type 0
IsRunBy callees f e stages = option_map (stages_by callees) (slice_get f.expressions e) ≡ Some stages

-- the expression at a handle fits its operands, given the forms of types
abbrev pub found_fits : List Form → Option PlainExpression → Bool
found_fits forms (Some expression) = fits forms expression
found_fits forms None = false

abbrev pub fits_at : List Form → PlainFunction → ℕ → Bool
fits_at forms f e = found_fits forms (slice_get f.expressions e)

-- Each expression has a type, and operations fit their operands.
abbrev pub reading_of : Question → Reading
reading_of q = record {
  HasForm = HasForm q.m q.f;
  IsAnalysed = λ flags. (e : ℕ) → IsUntyped q.m q.f e → ⊥;
  IsAccepted = λ capabilities forms e. IsTrue (fits_at forms q.f e);
  IsRunBy = IsRunBy q.stages q.f;
}

-- The analysis refuses an expression without a type.
pub data IsTypeFault (m : PlainModule) (f : PlainFunction) : FunctionError → Type 0 where
  untyped : {e : ℕ} → IsUntyped m f e → IsTypeFault m f (Expression e Other)

-- an expression is invalid if it does not fit its operands, or is not supported
abbrev pub IsUnfit : PlainFunction → List Form → ℕ → ExpressionError → Type 0
IsUnfit f forms e x = (x ≡ Other) × (fits_at forms f e ≡ false)

abbrev pub faults_of : Question → Faults
faults_of q = record {
  IsAnalysisFault = λ flags. IsTypeFault q.m q.f;
  IsFaultAt = λ capabilities forms. IsUnfit q.f forms;
}
