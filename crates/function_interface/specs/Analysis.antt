-- The result of a layer's analysis of a function.
use Rattle.std.specs.Prelude.{◌≡◌, ℕ, Bool, false, List, Some, length, map, slice_get, []}
use Rattle.typing_errors.specs.declared.expressions.ExpressionError.{ExpressionError}
use Rattle.typing_errors.specs.declared.error.FunctionError.{FunctionError}
use Rattle.ir_types.specs.found.Faults.{error_of, spans_of}
use Rattle.ir_types.specs.declared.refusal.Refusal.{Refusal}
use Rattle.ir_types.specs.declared.refusal.Refusal.TheVariants as refusal
use Rattle.ir_flags.specs.declared.settings.Capabilities.{Capabilities}
use Rattle.ir_flags.specs.declared.settings.ValidationFlags.{ValidationFlags}
use Rattle.ir_flags.specs.declared.stages.ShaderStages.{ShaderStages}
use Rattle.spec_expressions.specs.judged.Summaries.{Summary, IsJoined}
use Rattle.spec_statements.specs.judged.ExpressionStages.{all_stages}
use Rattle.spec_statements.specs.judged.Functions.{Reading, AreFormsBy}
use Rattle.typing_forms.specs.judged.Forms.{NoStructValue}
use Rattle.typing_forms.specs.judged.Resolutions.{resolution_view}
use Rattle.typing_forms.specs.declared.form.Form.{Form}
use Rattle.typing_forms.specs.declared.resolution.TypeResolution.{TypeResolution}
use Rattle.typing_errors.specs.Answers.{form_given}
use Rattle.function_interface.specs.Arities.{IsArityFaultAt}
use Rattle.function_interface.specs.Question.{Question}
use Rattle.ir_blocks.specs.judged.Places.{Place}
use Rattle.ir_items.specs.judged.Plain.{PlainFunction, PlainModule}
use Rattle.ir_places.specs.Paths.{IsPlaced}
use Rattle.ir_places.specs.declared.trail.Trail.{Trail}
use Rattle.spec_expressions.specs.judged.CallArities.{AritiesMatch}

-- The errors that a layer finds in a function: those of its analysis, and those of an expression.
pub record Faults : Type 1 where
  pub IsAnalysisFault : ValidationFlags → FunctionError → Type 0
  pub IsFaultAt : Capabilities → (forms : List Form) → (expression : ℕ) → ExpressionError → Type 0

-- The information on a function: its analysis finds no error, its expressions have these types, of which each struct is a type
-- of the module, its uses and pairs are joined from its own and its callees', each use is of an existing global variable, and
-- nothing is noted yet.
pub record IsKept (reading : Reading) (flags : ValidationFlags) (q : Question) (types : List TypeResolution) (summary : Summary) (stages : ShaderStages) (blending : Bool) : Type 0 where
  pub analysed : reading.IsAnalysed flags
  pub typed : AreFormsBy reading q.f (map (form_given q.m.types) types)
  pub named : (expression : ℕ) (r : TypeResolution) → slice_get types expression ≡ Some r → NoStructValue (resolution_view r)
  pub globals : length summary.uses ≡ length q.m.globals
  pub joined : IsJoined (length q.m.globals) q.f q.summaries summary
  pub all_run : stages ≡ all_stages
  pub unblended : blending ≡ false

-- out of memory, or one of these errors, without spans
abbrev pub IsRefusedFor : (FunctionError → Type 0) → Refusal FunctionError → Type 0
IsRefusedFor IsFault (refusal.Memory e) = Unit {0}
IsRefusedFor IsFault (refusal.Fault e) = IsFault (error_of e) × (spans_of e ≡ [])

-- the same for an error at the place of the trail
abbrev pub IsRefusedAt : Trail → (FunctionError → Place → Type 0) → Refusal FunctionError → Type 0
IsRefusedAt t IsFault (refusal.Memory e) = Unit {0}
IsRefusedAt t IsFault (refusal.Fault e) = IsPlaced t (IsFault (error_of e)) × (spans_of e ≡ [])

-- errors found before the other parts are checked: of the arity of the call at the place or, if all are right, of the analysis,
-- which has no place
pub data IsFaultBefore (faults : Faults) (flags : ValidationFlags) (m : PlainModule) (f : PlainFunction) (e : FunctionError) (p : Place) : Type 0 where
  in_arity : IsArityFaultAt m f e p → IsFaultBefore faults flags m f e p
  in_analysis : AritiesMatch m f → faults.IsAnalysisFault flags e → IsFaultBefore faults flags m f e p
