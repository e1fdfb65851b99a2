-- The contents of a `FunctionInfo`, per expression and as a whole.
use Rattle.std.specs.Prelude.{◌≡◌, ◌↔◌, ℕ, ◌-◌, ◌^◌, min, false, List, Some, length, slice_get}
use Rattle.bitflags.specs.Sets.{known_bits}
use Rattle.ir_flags.specs.Words.{shader_stage_bits}
use Rattle.ir_items.specs.judged.Plain.{PlainFunction, PlainModule}
use Rattle.typing_uniformity.specs.Facts.{IsUniformity}
use Rattle.spec_expressions.specs.declared.expression_info.ExpressionInfo.{ExpressionInfo}
use Rattle.typing_infos.specs.Infos.{summary_of}
use Rattle.typing_infos.specs.Keys.{AreKeys}
use Rattle.typing_infos.specs.declared.function_info.FunctionInfo.{FunctionInfo}
use Rattle.spec_expressions.specs.judged.Effects.{effects_of, places_of}
use Rattle.spec_expressions.specs.judged.Summaries.{Summary, IsJoined}
use Rattle.spec_expressions.specs.judged.Values.{StartsAt}
use Rattle.spec_expressions.specs.judged.Typing.{HasType}
use Rattle.typing_errors.specs.Answers.{form_given}

-- The info of the expression at a place: the source of non-uniformity of its value and its requirements, its reference count,
-- the global variable at the root of its access chain, and its type.
pub record IsExpressionInfo (m : PlainModule) (f : PlainFunction) (e : ℕ) (i : ExpressionInfo) : Type 0 where
  pub uniformity : IsUniformity m f e i.uniformity
  pub ref_count : i.ref_count ≡ min (places_of e (effects_of f)) (2 ^ 64 - 1)
  pub assignable_global : (g : ℕ) → (i.assignable_global ≡ Some g) ↔ StartsAt f.expressions e g
  pub ty : HasType m f e (form_given m.types i.ty)

-- the info of each expression says so
pub record AreExpressionInfos (m : PlainModule) (f : PlainFunction) (infos : List ExpressionInfo) : Type 0 where
  pub len : length infos ≡ length f.expressions
  pub each : (e : ℕ) (i : ExpressionInfo) → slice_get infos e ≡ Some i → IsExpressionInfo m f e i

-- The parts of a `FunctionInfo` that don't depend on callees: the info of each expression, and the sampled pairs that consist
-- of two global variables, sorted, each once.
pub record IsOwnInfo (m : PlainModule) (f : PlainFunction) (info : FunctionInfo) : Type 0 where
  pub expressions : AreExpressionInfos m f info.expressions.items
  pub sampling_set : AreKeys info.sampling.items info.sampling_set.items

-- The `FunctionInfo` of a function, given the summaries of its callees: the uses of global variables, the sampled pairs and
-- whether it may discard are joined from its own and its callees'; no stages are noted yet.
pub record IsFunctionInfo (m : PlainModule) (f : PlainFunction) (summaries : List Summary) (info : FunctionInfo) : Type 0 where
  pub expressions : AreExpressionInfos m f info.expressions.items
  pub globals : length info.uses.items ≡ length m.globals
  pub joined : IsJoined (length m.globals) f summaries (summary_of info)
  pub sampling_set : AreKeys info.sampling.items info.sampling_set.items
  pub available_stages : info.available_stages.0 ≡ known_bits shader_stage_bits
  pub dual_source_blending : info.dual_source_blending ≡ false
