-- Lists of members by index.
use Rattle.std.proofs.Common.{◌≡◌, ◌≢◌, ◌<◌, ◌≤◌, ◌+◌, ◌-◌, ◌⊎◌, inl, inr, ℕ, zero, suc, List, [], ◌∷◌, Some, map, length, slice_get, get_or, refl, sym, ap, subst, arith, rules}
use Rattle.ir_types.specs.judged.Plain.{PlainMember, member_view}
use Rattle.ir_types.specs.declared.types.StructMember.{StructMember}
use Rattle.typing_layout.specs.judged.Parts.{TreeMember, member_list, item_before}
use Rattle.typing_layout.specs.judged.Tree.{Tree}
use Rattle.typing_layout.specs.judged.View.{members_by}
use Rattle.module_type_checks.specs.Placed.{part_of, AtPlace, Below}

-- the member at an index, as plain data and as a part
pub plain_at : (ms : List StructMember) (k : ℕ) (d : StructMember) → k < length ms → slice_get (map member_view ms) k ≡ Some (member_view (get_or ms k d))
plain_at [] k d lt = absurd (omega arith)
plain_at (m ∷ ms) zero d lt = refl
plain_at (m ∷ ms) (suc k) d lt = plain_at ms k d (omega arith)

pub part_at : (tree : ℕ → Tree) (ms : List PlainMember) (k : ℕ) (m : PlainMember) → slice_get ms k ≡ Some m → slice_get (member_list (members_by tree ms)) k ≡ Some (part_of tree m)
part_at tree [] k m e = cc
part_at tree (x ∷ xs) zero m e = let q : x ≡ m = cc in ap (λ y. Some (part_of tree y)) q
part_at tree (x ∷ xs) (suc k) m e = part_at tree xs k m e

pub many_parts : (tree : ℕ → Tree) (ms : List PlainMember) → length (member_list (members_by tree ms)) ≡ length ms
many_parts tree [] = refl
many_parts tree (x ∷ xs) = ap suc (many_parts tree xs)

pub many_plain : (ms : List StructMember) → length (map member_view ms) ≡ length ms
many_plain [] = refl
many_plain (x ∷ xs) = ap suc (many_plain xs)

-- the member before any index but the first
pub before_is : {A : Type 0} (xs : List A) (k : ℕ) → (k ≢ 0) → item_before xs k ≡ slice_get xs (k - 1)
before_is xs zero some = absurd (some refl)
before_is xs (suc k) some = let e : suc k - 1 ≡ k = omega arith in ap (slice_get xs) (sym e)

below_or_same : (h k : ℕ) → h < k + 1 → (h < k) ⊎ (h ≡ k)
below_or_same h k lt = search rules

pub below_none : (P : ℕ → TreeMember → Type 0) (ps : List TreeMember) (place : ℕ) → place ≡ 0 → Below P ps place
below_none P ps place none = record { each = λ k lt. absurd (omega arith) }

pub below_more : (P : ℕ → TreeMember → Type 0) (ps : List TreeMember) (place : ℕ) → Below P ps place → AtPlace P ps place → Below P ps (place + 1)
below_more P ps place before here =
    record { each = λ k lt. elim (below_or_same k place lt) [ inl less ↦ before.each k less | inr same ↦ subst (AtPlace P ps) (sym same) here ] }

pub below_all : (P : ℕ → TreeMember → Type 0) (tree : ℕ → Tree) (ms : List StructMember) (place : ℕ) → Below P (member_list (members_by tree (map member_view ms))) place → length ms ≤ place
    → (k : ℕ) → AtPlace P (member_list (members_by tree (map member_view ms))) k
below_all P tree ms place before all k p e =
    before.each k (let lt = within (member_list (members_by tree (map member_view ms))) k p e in omega (arith, lt, many_parts tree (map member_view ms), many_plain ms)) p e
  where
    within : (ps : List TreeMember) (k : ℕ) (p : TreeMember) → slice_get ps k ≡ Some p → k < length ps
    within [] k p e = cc
    within (x ∷ xs) zero p e = omega arith
    within (x ∷ xs) (suc k) p e = let h = within xs k p e in omega (arith, h)
