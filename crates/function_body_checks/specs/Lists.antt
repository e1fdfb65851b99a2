-- Lists of expressions built from ranges, with their set.
use Rattle.std.specs.Prelude.{◌≡◌, ℕ, ◌<◌, Bool, true, false, List, [], ◌∷◌, ◌++◌, All, Contains, length}
use Rattle.std.specs.List.{flat_map}
use Rattle.std.specs.Ordering.{nat_cmp}
use Rattle.std.specs.FinSet as set
use Rattle.ir_arena.specs.judged.Handles.{handles_between}
use Rattle.function_body_checks.specs.Carried.{holds}

-- the expressions of these ranges
abbrev pub listed : List (ℕ × ℕ) → List ℕ
listed ranges = flat_map handles_between ranges

-- all are distinct
abbrev pub AreOnce : List ℕ → Type 0
AreOnce [] = Unit {0}
AreOnce (x ∷ xs) = (holds xs x ≡ false) × AreOnce xs

-- the set is that of the expressions of the ranges, with this number, all distinct
pub record AreListed (members : set.FinSet nat_cmp) (ranges : List (ℕ × ℕ)) (count : ℕ) : Type 0 where
  pub found : (e : ℕ) → set.contains members e ≡ holds (listed ranges) e
  pub once : AreOnce (listed ranges)
  pub small : (e : ℕ) → holds (listed ranges) e ≡ true → e < 4294967296
  pub many : count ≡ length (listed ranges)

-- the expression is appended if it is not yet in the list
abbrev pub IsAdded : (old new : List ℕ) → ℕ → (added : Bool) → Type 0
IsAdded old new e true = (new ≡ old ++ e ∷ []) × ¬ Contains old e
IsAdded old new e false = (new ≡ old) × Contains old e

-- all of the expressions are appended if none of them is in the list
abbrev pub AreAdded : (old new : List ℕ) → List ℕ → (added : Bool) → Type 0
AreAdded old new es true = (new ≡ old ++ es) × All (λ e. ¬ Contains old e) es
AreAdded old new es false = (new ≡ old) × ((e : ℕ) × Contains es e × Contains old e)
