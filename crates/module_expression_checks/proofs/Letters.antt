-- The components of a swizzle pattern, index by index.
use Rattle.std.proofs.Common.{◌≡◌, ◌<◌, ◌≤◌, ◌+◌, ◌⊎◌, inl, inr, ℕ, zero, suc, List, [], ◌∷◌, Some, length, slice_get, sym, ap, subst, ◌∙◌, arith, rules}
use Rattle.module_expression_checks.specs.Letters.{MayStand, StandBelow}
use Rattle.ir_kinds.specs.declared.scalars.SwizzleComponent.{SwizzleComponent}
use Rattle.ir_kinds.specs.declared.scalars.VectorSize.{VectorSize}
use Rattle.spec_statements.specs.judged.Swizzles.{AreComponents}

below_or_same : (h k : ℕ) → h < k + 1 → (h < k) ⊎ (h ≡ k)
below_or_same h k lt = search rules

within : (xs : List SwizzleComponent) (k : ℕ) (x : SwizzleComponent) → slice_get xs k ≡ Some x → k < length xs
within [] k x e = cc
within (y ∷ ys) zero x e = omega arith
within (y ∷ ys) (suc k) x e = let h = within ys k x e in omega (arith, h)

pub stand_none : (size : VectorSize) (pattern : List SwizzleComponent) (of : VectorSize) (place : ℕ) → place ≡ 0 → StandBelow size pattern of place
stand_none size pattern of place first = record { each = λ k letter lt at. absurd (omega (arith, first, lt)) }

pub stand_more : (size : VectorSize) (pattern : List SwizzleComponent) (of : VectorSize) (place : ℕ) (letter : SwizzleComponent) → StandBelow size pattern of place → slice_get pattern place ≡ Some letter
    → MayStand size place letter of → StandBelow size pattern of (place + 1)
stand_more size pattern of place letter before here stands = record {
  each = λ k other lt at. elim (below_or_same k place lt) [
    | inl less ↦ before.each k other less at
    | inr same ↦
        let there : slice_get pattern place ≡ Some other = ap (slice_get pattern) (sym same) ∙ at in
        let one : letter ≡ other = cc in
        subst (λ n. MayStand size n other of) (sym same) (subst (λ l. MayStand size place l of) one stands)
  ];
}

pub stand_all : (size : VectorSize) (pattern : List SwizzleComponent) (of : VectorSize) (place : ℕ) → StandBelow size pattern of place → length pattern ≤ place → AreComponents size pattern of
stand_all size pattern of place below all k letter counts at = below.each k letter (let h = within pattern k letter at in omega (arith, h, all)) at counts

pub stand_not : (size : VectorSize) (pattern : List SwizzleComponent) (of : VectorSize) (place : ℕ) (letter : SwizzleComponent) → slice_get pattern place ≡ Some letter → ¬ MayStand size place letter of
    → AreComponents size pattern of → ⊥
stand_not size pattern of place letter here wrong all = wrong (λ counts. all place letter counts here)
