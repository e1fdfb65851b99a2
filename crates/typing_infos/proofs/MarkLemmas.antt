-- An index is marked, step by step.
use Rattle.std.proofs.Common.{◌≡◌, ℕ, zero, suc, ◌+◌, ◌<◌, ◌≤◌, Bool, true, false, List, [], ◌∷◌, ◌++◌, length, refl, sym, ap, ◌∙◌, arith}
use Rattle.std.specs.Prelude.{slice_set}
use Rattle.typing_infos.specs.Marks.{marked_at}

-- extending by one more, up to the marked index, makes no difference
pub one_place_more : (marks : List Bool) (place : ℕ) → length marks ≤ place → marked_at (marks ++ false ∷ []) place ≡ marked_at marks place
one_place_more [] zero le = refl
one_place_more [] (suc place) le = refl
one_place_more (m ∷ marks) zero le = absurd (omega (arith, le))
one_place_more (m ∷ marks) (suc place) le = ap (λ l. m ∷ l) (one_place_more marks place (omega (arith, le)))

-- a mark in the list is set
pub set_there : (marks : List Bool) (place : ℕ) → place < length marks → slice_set marks place true ≡ marked_at marks place
set_there [] place lt = absurd (omega (arith, lt))
set_there (m ∷ marks) zero lt = refl
set_there (m ∷ marks) (suc place) lt = ap (λ l. m ∷ l) (set_there marks place (omega (arith, lt)))
