-- The list of forms of the types of expressions is unique.
use Rattle.std.proofs.Common.{◌≡◌, ℕ, suc, List, [], ◌∷◌, Some, length, slice_get, refl, sym, ◌∙◌, arith}
use Rattle.spec_expressions.specs.TypingForms.{Form}
use Rattle.spec_statements.specs.found.Laws.{OneList}
use Rattle.spec_expressions.proofs.TypingLaws.{one_type}

-- lists of the same length, with the same elements
same_lists : (left right : List Form) → length left ≡ length right → ((place : ℕ) (s t : Form) → slice_get left place ≡ Some s → slice_get right place ≡ Some t → s ≡ t) → left ≡ right
same_lists [] [] many each = refl
same_lists [] (y ∷ ys) many each = absurd (omega (arith, many))
same_lists (x ∷ xs) [] many each = absurd (omega (arith, many))
same_lists (x ∷ xs) (y ∷ ys) many each =
    let first : x ≡ y = each 0 x y refl refl in
    let rest : xs ≡ ys = same_lists xs ys (omega (arith, many)) (λ place s t p q. each (suc place) s t p q) in
    cc (first, rest)

pub one_list : OneList
one_list c expressions left right a b =
    same_lists left right (a.many ∙ sym b.many) (λ place s t p q. one_type c expressions place s t (a.each place s p) (b.each place t q))
