-- A table of what chains begin at.
use Rattle.std.proofs.Common.{◌≡◌, ℕ, zero, suc, ◌+◌, ◌<◌, ◌≤◌, List, [], ◌∷◌, ◌++◌, length, get_or, Option, Some, None, slice_get, refl, sym, ap, subst, ◌∙◌, arith}
use Rattle.std.specs.Prelude.{option_and_then}
use Rattle.std.proofs.lemmas.Option.{same_Some}
use Rattle.ir_items.specs.judged.Bases.{base_of, BasesPrecede}
use Rattle.ir_types.specs.judged.ExpressionPlain.{PlainExpression}
use Rattle.spec_statements.specs.judged.Stores.{base_at, BeginsAt, itself, through}
use Rattle.function_statement_checks.specs.Roots.{root_by, AreRoots}

pub none_known : (expressions : List PlainExpression) → AreRoots expressions []
none_known expressions handle root at = absurd (let e = at in cc)

-- ---- one more

-- what is at a place after one more
data Where (roots : List ℕ) (last handle root : ℕ) : Type 0 where
  before : slice_get roots handle ≡ Some root → Where roots last handle root
  at_last : handle ≡ length roots → last ≡ root → Where roots last handle root

found : (roots : List ℕ) (last handle root : ℕ) → slice_get (roots ++ last ∷ []) handle ≡ Some root → Where roots last handle root
found [] last zero root at = at_last refl (same_Some _ _ at)
found [] last (suc handle) root at = absurd (let e = at in cc)
found (r ∷ roots) last zero root at = before at
found (r ∷ roots) last (suc handle) root at = elim (found roots last handle root at) [ before here ↦ before here | at_last is same ↦ at_last (ap suc is) same ]

stays : (roots : List ℕ) (last handle root : ℕ) → slice_get roots handle ≡ Some root → slice_get (roots ++ last ∷ []) handle ≡ Some root
stays [] last handle root at = absurd (let e = at in cc)
stays (r ∷ roots) last zero root at = at
stays (r ∷ roots) last (suc handle) root at = stays roots last handle root at

still : (roots : List ℕ) (last handle root : ℕ) (base : Option ℕ) → root_by roots handle base ≡ Some root → root_by (roots ++ last ∷ []) handle base ≡ Some root
still roots last handle root None is = is
still roots last handle root (Some base) is = stays roots last base root is

pub one_more : (expressions : List PlainExpression) (roots more : List ℕ) (handle root : ℕ) → AreRoots expressions roots → length roots ≡ handle → root_by roots handle (base_at expressions handle) ≡ Some root → more ≡ roots ++ root ∷ []
    → AreRoots expressions more
one_more expressions roots more handle root known next told is =
    subst (AreRoots expressions) (sym is) (λ h r at. elim (found roots root h r at) [
      | before here ↦ still roots root h r (base_at expressions h) (known h r here)
      | at_last last same ↦
          subst (λ k. root_by (roots ++ root ∷ []) k (base_at expressions k) ≡ Some r) (sym next ∙ sym last)
          (subst (λ q. root_by (roots ++ root ∷ []) handle (base_at expressions handle) ≡ Some q) same (still roots root handle root (base_at expressions handle) told))
    ])

-- ---- what is told of one

at_place : (roots : List ℕ) (i root : ℕ) → i < length roots → root ≡ get_or roots i root → slice_get roots i ≡ Some root
at_place [] i root lt is = absurd (omega (arith, lt))
at_place (r ∷ roots) zero root lt is = ap Some (sym is)
at_place (r ∷ roots) (suc i) root lt is = at_place roots i root (omega (arith, lt)) is

-- the base is there
pub by_base : (expressions : List PlainExpression) (roots : List ℕ) (handle base place root : ℕ) → Some base ≡ base_at expressions handle → place ≡ base → place < length roots → root ≡ get_or roots place root
    → root_by roots handle (base_at expressions handle) ≡ Some root
by_base expressions roots handle base place root is same lt at =
    ap (root_by roots handle) (sym is) ∙ subst (λ i. slice_get roots i ≡ Some root) same (at_place roots place root lt at)

base_there : (o : Option PlainExpression) (base : ℕ) → option_and_then base_of o ≡ Some base → (e : PlainExpression) × (o ≡ Some e) × (base_of e ≡ Some base)
base_there (Some e) base at = (e, refl, at)
base_there None base at = absurd (let e = at in cc)

base_below : (expressions : List PlainExpression) (handle base : ℕ) → BasesPrecede expressions → base_at expressions handle ≡ Some base → base < handle
base_below expressions handle base precede is = let e = base_there (slice_get expressions handle) base is in precede handle base e.0 e.1 e.2

-- it can't be missing
pub base_known : (expressions : List PlainExpression) (roots : List ℕ) (handle base place : ℕ) {A : Type 0} → BasesPrecede expressions → Some base ≡ base_at expressions handle → place ≡ base → length roots ≡ handle → length roots ≤ place → A
base_known expressions roots handle base place precede is same next past =
    let lt = base_below expressions handle base precede (sym is) in
    absurd (omega (arith, lt, past, same, next))

-- there is no base
pub by_itself : (expressions : List PlainExpression) (roots : List ℕ) (handle : ℕ) → None ≡ base_at expressions handle → root_by roots handle (base_at expressions handle) ≡ Some handle
by_itself expressions roots handle is = ap (root_by roots handle) (sym is)

-- ---- what the table says is what chains begin at

module _ (expressions : List PlainExpression) (roots : List ℕ) (precede : BasesPrecede expressions) (known : AreRoots expressions roots) where
  begins_by : (n handle root : ℕ) → handle < n → (base : Option ℕ) → base_at expressions handle ≡ base → root_by roots handle base ≡ Some root → BeginsAt expressions handle root
  begins_by zero handle root lt base at told = absurd (omega (arith, lt))
  begins_by (suc n) handle root lt None at told = subst (BeginsAt expressions handle) (same_Some _ _ told) (itself at)
  begins_by (suc n) handle root lt (Some base) at told =
      let below = base_below expressions handle base precede at in
      through at (begins_by n base root (omega (arith, lt, below)) (base_at expressions base) refl (known base root told))

  pub begins : (handle place root : ℕ) → place ≡ handle → place < length roots → root ≡ get_or roots place root → BeginsAt expressions handle root
  begins handle place root same lt is =
      let at = subst (λ i. slice_get roots i ≡ Some root) same (at_place roots place root lt is) in
      begins_by (suc handle) handle root (omega arith) (base_at expressions handle) refl (known handle root at)
