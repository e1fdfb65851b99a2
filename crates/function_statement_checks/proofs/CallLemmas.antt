-- What a function declares at a place, and what is passed at all places.
use Rattle.std.proofs.Common.{◌≡◌, ◌≤◌, ◌<◌, ◌⊎◌, inl, inr, ◌+◌, ℕ, zero, suc, List, [], ◌∷◌, map, length, Some, option_map, slice_get, refl, sym, ap, subst, arith}
use Rattle.ir_items.specs.judged.Plain.{PlainFunction}
use Rattle.spec_statements.specs.judged.BlockContext.{BlockContext}
use Rattle.function_statement_checks.specs.Calls.{PassesAt, PassesBelow}

pub declared : {A B : Type 0} (view : A → B) (xs : List A) (place : ℕ) → option_map view (slice_get xs place) ≡ slice_get (map view xs) place
declared view [] place = refl
declared view (x ∷ xs) zero = refl
declared view (x ∷ xs) (suc place) = declared view xs place

-- one place more
pub pass_more : (c : BlockContext) (callee : PlainFunction) (arguments : List ℕ) (place : ℕ) → PassesBelow c callee arguments place → PassesAt c callee arguments place → PassesBelow c callee arguments (place + 1)
pass_more c callee arguments place below here = record {
  each = λ k lt. elim (split k place lt) [ inl less ↦ below.each k less | inr same ↦ subst (PassesAt c callee arguments) (sym same) here ];
}
  where
    split : (k place : ℕ) → k < place + 1 → (k < place) ⊎ (k ≡ place)
    split zero zero lt = inr refl
    split zero (suc place) lt = inl (omega arith)
    split (suc k) zero lt = absurd (omega (arith, lt))
    split (suc k) (suc place) lt = elim (split k place (omega (arith, lt))) [ inl less ↦ inl (omega (arith, less)) | inr same ↦ inr (ap suc same) ]

past : (xs : List ℕ) (k e : ℕ) → length xs ≤ k → slice_get xs k ≡ Some e → ⊥
past [] k e le is = absurd (let none = is in cc)
past (x ∷ xs) zero e le is = absurd (omega (arith, le))
past (x ∷ xs) (suc k) e le is = past xs k e (omega (arith, le)) is

-- at all places
pub pass_all : (c : BlockContext) (callee : PlainFunction) (arguments : List ℕ) (place : ℕ) → PassesBelow c callee arguments place → length arguments ≤ place → (k : ℕ) → PassesAt c callee arguments k
pass_all c callee arguments place below le k = elim (less_or_past k place) [ inl less ↦ below.each k less | inr more ↦ λ e a is declared. absurd (past arguments k e (omega (arith, le, more)) is) ]
  where
    less_or_past : (k place : ℕ) → (k < place) ⊎ (place ≤ k)
    less_or_past k zero = inr (omega arith)
    less_or_past zero (suc place) = inl (omega arith)
    less_or_past (suc k) (suc place) = elim (less_or_past k place) [ inl less ↦ inl (omega (arith, less)) | inr more ↦ inr (omega (arith, more)) ]
