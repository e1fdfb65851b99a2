-- The handles of a set in ascending order.
use Rattle.std.specs.Prelude.{◌≡◌, ℕ, List, nat_eq}
use Rattle.std.specs.List.{list_any}
use Rattle.std.specs.List.Sorted.{IsStrictlyIncreasing}
use Rattle.std.specs.Ordering.{nat_cmp}
use Rattle.std.specs.FinSet as set

-- the handles are the members of the set, in ascending order
pub record ListsMembers (members : set.FinSet nat_cmp) (handles : List ℕ) : Type 0 where
  pub rising : IsStrictlyIncreasing handles
  pub same : (handle : ℕ) → set.contains members handle ≡ list_any (λ h. nat_eq h handle) handles
