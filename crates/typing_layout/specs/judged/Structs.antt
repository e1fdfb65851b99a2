-- Which members a struct may have.
use Rattle.std.specs.Prelude.{◌≡◌, ◌≢◌, ◌≤◌, ◌<◌, ◌⊎◌, ℕ, suc, List, [], Some, IfSome, length, slice_get}
use Rattle.typing_layout.specs.judged.Flags.{HasFlag, Data, Sized}
use Rattle.typing_layout.specs.judged.Parts.{TreeMember, end_of, item_before}

-- a member at its index: it is `DATA`; only the last may be of unknown size; it begins at or after the
-- end of the one before, or at 0; and it ends within the span
pub record MemberOK (ps : List TreeMember) (span place : ℕ) (p : TreeMember) : Type 0 where
  pub stored : HasFlag Data p.of_type
  pub sized : suc place < length ps → HasFlag Sized p.of_type
  pub ordered : IfSome (item_before ps place) (λ a. end_of a ≤ p.offset) ⊎ (p.offset ≡ 0)
  pub within : end_of p ≤ span

pub record StructOK (ps : List TreeMember) (span : ℕ) : Type 0 where
  pub some : ps ≢ []
  pub each : (place : ℕ) (p : TreeMember) → slice_get ps place ≡ Some p → MemberOK ps span place p
