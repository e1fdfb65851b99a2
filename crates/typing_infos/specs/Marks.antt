-- The arguments among pairs, and lists of distinct pairs.
use Rattle.std.specs.Prelude.{◌≡◌, ℕ, zero, suc, Bool, true, false, List, [], ◌∷◌, ◌++◌, fold, if◌then◌else◌}
use Rattle.std.specs.List.{list_any}
use Rattle.spec_expressions.specs.declared.sampling.GlobalOrArgument.{GlobalOrArgument}
use Rattle.spec_expressions.specs.declared.sampling.GlobalOrArgument.TheVariants.{Global, Argument}
use Rattle.spec_expressions.specs.judged.Pairs.{SamplingPair, pair_eq}

-- the pairs with one more, if it is not contained
abbrev pub with_pair : List SamplingPair → SamplingPair → List SamplingPair
with_pair pairs p = if list_any (pair_eq p) pairs then pairs else pairs ++ p ∷ []

-- the pairs are distinct: inserted into an empty set one after another, all are kept
abbrev pub EachOnce : List SamplingPair → Type 0
EachOnce pairs = fold with_pair [] pairs ≡ pairs

-- the marks with the one at an index set, extended as needed
abbrev pub marked_at : List Bool → ℕ → List Bool
marked_at [] zero = true ∷ []
marked_at [] (suc place) = false ∷ marked_at [] place
marked_at (mark ∷ marks) zero = true ∷ marks
marked_at (mark ∷ marks) (suc place) = mark ∷ marked_at marks place

abbrev pub marked_part : List Bool → GlobalOrArgument → List Bool
marked_part marks (Global g) = marks
marked_part marks (Argument number) = marked_at marks number

abbrev pub marked_pair : List Bool → SamplingPair → List Bool
marked_pair marks p = marked_part (marked_part marks p.0) p.1

-- for each argument whether a pair contains it, up to the last one contained
abbrev pub marks_of : List SamplingPair → List Bool
marks_of pairs = fold marked_pair [] pairs
