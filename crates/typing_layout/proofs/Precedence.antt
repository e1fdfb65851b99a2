-- The operands that determine the kinds of expressions precede.
use Rattle.std.proofs.Common.{◌≡◌, ◌<◌, ◌≤◌, ◌+◌, ◌++◌, ◌↔◌, ◌⊎◌, inl, inr, ℕ, zero, suc, List, [], ◌∷◌, Some, All, IsTrue, Bool, map, option_to_list, length, slice_get, sym, subst, arith, rules}
use Rattle.std.proofs.lemmas.List.Elements.{All-append}
use Rattle.std.proofs.lemmas.Option.{slice_get_within}
use Rattle.typing_forms.specs.IrArena.{value_of_entry, Span}
use Rattle.typing_forms.specs.IrTypes.{PlainExpression, expression_view, Expression}
use Rattle.typing_layout.specs.judged.Constness.{OriginsPrecede, origin_of, operands_from}
use Rattle.typing_forms.specs.IrTypes.expression as expression
use Rattle.typing_layout.proofs.Latest.{all_right, many_expressions}

-- each expression before an index has its kind from earlier ones
pub record PrecedeBelow (expressions : List PlainExpression) (place : ℕ) : Type 0 where
  pub each : (handle : ℕ) (e : PlainExpression) → handle < place → slice_get expressions handle ≡ Some e → All (λ operand. operand < handle) (operands_from (origin_of e))

below_or_same : (h k : ℕ) → h < k + 1 → (h < k) ⊎ (h ≡ k)
below_or_same h k lt = search rules

pub one_precedes_more : (expressions : List PlainExpression) (place : ℕ) (e : PlainExpression) → PrecedeBelow expressions place → slice_get expressions place ≡ Some e
    → All (λ operand. operand < place) (operands_from (origin_of e)) → PrecedeBelow expressions (place + 1)
one_precedes_more expressions place e before at all =
    record { each = λ handle d lt there. elim (below_or_same handle place lt) [ inl less ↦ before.each handle d less there | inr same ↦ last handle d same there ] }
  where
    last : (handle : ℕ) (d : PlainExpression) → handle ≡ place → slice_get expressions handle ≡ Some d → All (λ operand. operand < handle) (operands_from (origin_of d))
    last handle d same there =
        subst (λ h. All (λ operand. operand < h) (operands_from (origin_of d))) (sym same)
        (let one : e ≡ d = (let a = at in let b = there in let c = same in cc) in subst (λ x. All (λ operand. operand < place) (operands_from (origin_of x))) one all)

pub all_precede : (entries : List (Expression × Span)) (place : ℕ) → length entries ≤ place → PrecedeBelow (map expression_view (map value_of_entry entries)) place
    → OriginsPrecede (map expression_view (map value_of_entry entries))
all_precede entries place le before handle e there =
    before.each handle e (let lt : handle < length (map expression_view (map value_of_entry entries)) = slice_get_within _ handle e there in omega (arith, lt, many_expressions entries)) there

-- ---- the arguments of a math function

all_first : (n a : ℕ) (xs : List ℕ) → All (λ operand. operand < n) (a ∷ []) → All (λ operand. operand < n) xs → All (λ operand. operand < n) (a ∷ xs)
all_first n a xs first rest zero d lt = first 0 d (omega arith)
all_first n a xs first rest (suc k) d lt = rest k d (omega arith)

all_rest : (n a : ℕ) (xs : List ℕ) → All (λ operand. operand < n) (a ∷ xs) → All (λ operand. operand < n) xs
all_rest n a xs all k d lt = all (suc k) d (omega arith)

pub last_below : (n a : ℕ) (xs ys zs : List ℕ) (r : Bool) → All (λ operand. operand < n) (a ∷ []) → All (λ operand. operand < n) xs → All (λ operand. operand < n) ys
    → IsTrue r ↔ All (λ operand. operand < n) zs → IsTrue r ↔ All (λ operand. operand < n) (a ∷ (xs ++ ys ++ zs))
last_below n a xs ys zs r first left middle right = (
  (λ e. all_first n a (xs ++ ys ++ zs) first (All-append (λ operand. operand < n) (xs ++ ys) zs (All-append (λ operand. operand < n) xs ys left middle) (right.0 e))),
  (λ all. right.1 (all_right n (xs ++ ys) zs (all_rest n a (xs ++ ys ++ zs) all))),
)

pub math_below : (n : ℕ) (e : Expression) (fun arg arg1 arg2 arg3 : _) (r : Bool) → e ≡ expression.Math fun arg arg1 arg2 arg3
    → IsTrue r ↔ All (λ operand. operand < n) (arg ∷ (option_to_list arg1 ++ option_to_list arg2 ++ option_to_list arg3))
    → IsTrue r ↔ All (λ operand. operand < n) (operands_from (origin_of (expression_view e)))
math_below n e fun arg arg1 arg2 arg3 r is below = subst (λ x. IsTrue r ↔ All (λ operand. operand < n) (operands_from (origin_of (expression_view x)))) (sym is) below
