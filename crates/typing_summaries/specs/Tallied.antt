-- The meaning of a function's tally.
use Rattle.std.specs.Prelude.{◌≡◌, ◌↔◌, ℕ, ◌-◌, ◌^◌, ◌<◌, min, List, length, Option, Some, None, slice_index}
use Rattle.ir_items.specs.judged.Plain.{PlainFunction}
use Rattle.spec_expressions.specs.judged.Effects.{effects_of, places_of}
use Rattle.spec_expressions.specs.judged.Summaries.{Summary, IsJoined, IsFormFault}
use Rattle.typing_summaries.specs.Tallies.{Tallied}

abbrev pub summary_in : Tallied → Summary
summary_in t = record { uses = t.counted.uses; pairs = t.paired.pairs; may_kill = t.may_kill }

-- The tally has the function's summary joined with its callees', the reference counts, and an image or sampler operand
-- of a wrong form, if there is one.
pub record IsTally (globals : ℕ) (f : PlainFunction) (summaries : List Summary) (t : Tallied) : Type 0 where
  pub joined : IsJoined globals f summaries (summary_in t)
  pub uses : length t.counted.uses ≡ globals
  pub places : length t.counted.counts ≡ length f.expressions
  pub counts : (e : ℕ) → e < length f.expressions → slice_index t.counted.counts e ≡ min (places_of e (effects_of f)) (2 ^ 64 - 1)
  pub wrong : (e : ℕ) → t.paired.wrong ≡ Some e → IsFormFault f summaries e
  pub clear : t.paired.wrong ≡ None → (e : ℕ) → IsFormFault f summaries e → ⊥
