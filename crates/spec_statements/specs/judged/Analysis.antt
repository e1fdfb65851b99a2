-- What the analysis requires of a function, over the call chains that start at it.
use Rattle.std.specs.Prelude.{◌≡◌, ◌⊎◌, ℕ, None}
use Rattle.spec_expressions.specs.judged.Pairs.{SamplingPair}
use Rattle.spec_expressions.specs.judged.Faults.{FunctionFault}
use Rattle.ir_flags.specs.declared.settings.ValidationFlags.{ValidationFlags}
use Rattle.spec_expressions.specs.IrItems.{PlainFunction, PlainModule}
use Rattle.spec_expressions.specs.TypingRules.{IsAmong}
use Rattle.spec_expressions.specs.judged.CallChains.{global_or_argument, Step, Calls, HasPair}
use Rattle.spec_expressions.specs.judged.Effects.{samples, effects_of}
use Rattle.spec_expressions.specs.judged.Summaries.{IsWrongArgument}
use Rattle.spec_expressions.specs.judged.Uniformity.{Required}

-- an image or sampler of a sample at e denotes neither a global variable nor an argument
pub record SamplesWrongForm (f : PlainFunction) (e : ℕ) : Type 0 where
  pub image : ℕ
  pub sampler : ℕ
  pub sampling : IsAmong (samples e image sampler) (effects_of f)
  pub wrong : (global_or_argument f.expressions image ≡ None) ⊎ (global_or_argument f.expressions sampler ≡ None)

-- e is passed for the image or the sampler of a callee's pair, and denotes neither
pub record PassesWrongForm (m : PlainModule) (f : PlainFunction) (e : ℕ) : Type 0 where
  pub step : Step
  pub pair : SamplingPair
  pub calls : Calls m f step
  pub sampled : HasPair m step.function pair
  pub wrong : IsWrongArgument f.expressions step.arguments pair.0 e ⊎ IsWrongArgument f.expressions step.arguments pair.1 e

-- e is an operand of a wrong form
abbrev pub HasWrongForm : PlainModule → PlainFunction → ℕ → Type 0
HasWrongForm m f e = SamplesWrongForm f e ⊎ PassesWrongForm m f e

-- Image and sampler operands are of the right form, and no operation that requires uniform control flow is in non-uniform
-- control flow.
pub record IsAnalysed (flags : ValidationFlags) (m : PlainModule) (f : PlainFunction) : Type 0 where
  pub formed : (e : ℕ) → HasWrongForm m f e → ⊥
  pub uniform : (x : Required) → FunctionFault flags m f x → ⊥
