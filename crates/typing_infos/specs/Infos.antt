-- The meaning of a function's info.
use Rattle.std.specs.Prelude.{◌≡◌, ◌≢◌, ◌<◌, ◌≤◌, ℕ, List, [], ◌∷◌, Some, None, Option, bit_or, slice_set, slice_index_or}
use Rattle.std.specs.Int.{bit_at}
use Rattle.typing_rules.specs.judged.Laws.{IsAmong}
use Rattle.ir_flags.specs.Sets.{Has}
use Rattle.spec_expressions.specs.declared.global_use.GlobalUse.{GlobalUse}
use Rattle.spec_expressions.specs.judged.Summaries.{Summary, no_use}
use Rattle.typing_infos.specs.declared.function_info.FunctionInfo.{FunctionInfo}

-- what its callers read: its summary
abbrev pub summary_of : FunctionInfo → Summary
summary_of info = record { uses = info.uses.items; pairs = info.sampling.items; may_kill = info.may_kill }

-- ---- uses

-- the union of two uses
abbrev pub joined_use : GlobalUse → ℕ → GlobalUse
joined_use kind more = record { 0 = bit_or kind.0 more }

-- the uses with one added to a global variable, if it exists
abbrev pub marked : List GlobalUse → Option ℕ → ℕ → List GlobalUse
marked uses None kind = uses
marked uses (Some g) kind = slice_set uses g (joined_use (slice_index_or uses g no_use) kind)

-- the uses with all of these added
abbrev pub with_uses : List GlobalUse → List (ℕ × GlobalUse) → List GlobalUse
with_uses uses [] = uses
with_uses uses (more ∷ rest) = with_uses (marked uses (Some more.0) more.1.0) rest

-- one of these uses is of the global variable and has this bit
abbrev pub NotesUse : List (ℕ × GlobalUse) → (g k : ℕ) → Type 0
NotesUse noted g k = (u : ℕ × GlobalUse) × IsAmong u noted × (u.0 ≡ g) × (bit_at u.1.0 k ≡ 1)

-- the one list of uses has, for each global variable, each bit that the other has
abbrev pub Dominates : List GlobalUse → List GlobalUse → Type 0
Dominates uses others = (g : ℕ) → Has (slice_index_or uses g no_use).0 (slice_index_or others g no_use).0

-- no global variable of this range has a use
abbrev pub NoneUsed : List GlobalUse → (from end : ℕ) → Type 0
NoneUsed uses from end = (g : ℕ) → from ≤ g → g < end → (slice_index_or uses g no_use).0 ≡ 0

-- the first global variable of this range that has a use
pub record IsFirstUsed (uses : List GlobalUse) (from end g : ℕ) : Type 0 where
  pub reached : from ≤ g
  pub within : g < end
  pub used : (slice_index_or uses g no_use).0 ≢ 0
  pub before : NoneUsed uses from g
