-- The slots that the parts of a value overlap.
use Rattle.std.proofs.Common.{◌≡◌, ◌≢◌, ◌-◌, ◌↔◌, ◌<◌, ◌≤◌, ◌+◌, ◌*◌, ◌⊎◌, inl, inr, ℕ, zero, suc, List, ◌∷◌, get_or, drop, Some, None, map, min, length, refl, sym, subst, ap, ◌∙◌, arith}
use Rattle.std.specs.Int.RustNames.{bit_or}
use Rattle.std.proofs.lemmas.Bool.{cases_lt}
use Rattle.std.proofs.Math.Nat.{mul-le-mul_right}
use Rattle.std.proofs.Math.Seq.{drop-cons}
use Rattle.module_globals.proofs.Bits.{union_by_slots}
use Rattle.module_globals.specs.Reached.{IsReached, IsReachedIn, IsReachedAmong}
use Rattle.module_globals.specs.Slots.{IsIn, Meets}
use Rattle.ir_types.specs.judged.Plain.{PlainMember, PlainInner, PlainType, member_view}
use Rattle.ir_types.specs.declared.types.StructMember.{StructMember}
use Rattle.typing_layout.specs.judged.Tree.{Tree, scalar, vector, matrix, cooperative_matrix, atomic, pointer, value_pointer, array, struct, image, sampler, acceleration_structure, ray_query, binding_array, Members, no_members, member}
use Rattle.typing_layout.specs.judged.View.{members_by, tree_by, tree_found, tree_along}
use Rattle.typing_forms.specs.judged.Resolutions.{inner_at}

-- ---- arithmetic

-- bytes past the last slot are ignored
pub met_capped : (offset size k : ℕ) → k < 64 → Meets offset (min size 256) k ↔ Meets offset size k
met_capped offset size k lt = (
  (λ m. ((let a = m.0 in omega (arith, a)), (let b = m.1 in omega (arith, b)), m.2)),
  (λ m. ((let a = m.0 in omega (arith, a)), (let b = m.1 in omega (arith, b, lt)), m.2)),
)

pub none_in : (k : ℕ) → IsIn 0 k → ⊥
none_in k e = omega (arith, e)

-- ---- a value that begins after a slot does not overlap it

past : (slot offset size : ℕ) → 4 * slot + 4 ≤ offset → Meets offset size slot → ⊥
past slot offset size le m = let lt = m.2 in omega (arith, le, lt)

mutual
  pub far : (slot : ℕ) (t : Tree) (offset : ℕ) → 4 * slot + 4 ≤ offset → IsReached slot t offset → ⊥
  far slot (scalar s) offset le h = past slot offset _ le h
  far slot (vector n s) offset le h = past slot offset _ le h
  far slot (matrix columns rows s) offset le h = past slot offset _ le h
  far slot (cooperative_matrix columns rows s role) offset le h = past slot offset _ le h
  far slot (atomic s) offset le h = past slot offset _ le h
  far slot (pointer base space) offset le h = h
  far slot (value_pointer n s space) offset le h = h
  far slot (array base n stride) offset le h = far slot base (offset + h.0 * stride) (omega (arith, le)) h.2
  far slot (struct ms span) offset le h = far_in slot ms offset le h
  far slot (image dim arrayed class) offset le h = h
  far slot (sampler comparison) offset le h = h
  far slot (acceleration_structure vertex_return) offset le h = h
  far slot (ray_query vertex_return) offset le h = h
  far slot (binding_array base n) offset le h = h

  far_in : (slot : ℕ) (ms : Members) (offset : ℕ) → 4 * slot + 4 ≤ offset → IsReachedIn slot ms offset → ⊥
  far_in slot no_members offset le h = h
  far_in slot (member t binding begin ms) offset le h = elim h [
    | inl here ↦ far slot t (offset + begin) (omega (arith, le)) here
    | inr later ↦ far_in slot ms offset le later
  ]

-- ---- elements

-- the slots with one more element
pub element_more : (slot : ℕ) (element : Tree) (stride offset place a b both : ℕ) → both ≡ bit_or a b
    → IsIn a slot ↔ IsReachedAmong slot element stride offset place → IsIn b slot ↔ IsReached slot element (offset + place * stride)
    → IsIn both slot ↔ IsReachedAmong slot element stride offset (place + 1)
element_more slot element stride offset place a b both is before here = (
  (λ e. elim ((union_by_slots a b slot).0 (subst (λ s. IsIn s slot) is e)) [
    | inl x ↦ let f = before.0 x in (f.0, (let lt = f.1 in omega (arith, lt)), f.2)
    | inr y ↦ (place, omega arith, here.0 y)
  ]),
  (λ h. subst (λ s. IsIn s slot) (sym is) ((union_by_slots a b slot).1 (elim (cases_lt h.0 place) [
    | inl lt ↦ inl (before.1 (h.0, lt, h.2))
    | inr ge ↦ inr (here.1 (let e : h.0 ≡ place = (let lt = h.1 in omega (arith, lt, ge)) in subst (λ p. IsReached slot element (offset + p * stride)) e h.2))
  ]))),
)

-- all elements, if the first `n` are those at distinct offsets
pub element_all : (slot : ℕ) (element : Tree) (stride offset place end count a : ℕ) → place ≡ end
    → IsIn a slot ↔ IsReachedAmong slot element stride offset place → IsReachedAmong slot element stride offset end ↔ IsReachedAmong slot element stride offset count
    → IsIn a slot ↔ IsReachedAmong slot element stride offset count
element_all slot element stride offset place end count a is some all = (
  (λ e. all.0 (subst (λ p. IsReachedAmong slot element stride offset p) is (some.0 e))),
  (λ h. some.1 (subst (λ p. IsReachedAmong slot element stride offset p) (sym is) (all.1 h))),
)

-- after an element that begins past all slots, no later one overlaps any
pub element_rest : (slot : ℕ) (element : Tree) (stride offset place end count a : ℕ) → slot < 64 → place < end → 256 ≤ offset + place * stride
    → IsIn a slot ↔ IsReachedAmong slot element stride offset place → IsReachedAmong slot element stride offset end ↔ IsReachedAmong slot element stride offset count
    → IsIn a slot ↔ IsReachedAmong slot element stride offset count
element_rest slot element stride offset place end count a within lt behind some all = (
  (λ e. let f = some.0 e in all.0 (f.0, (let less = f.1 in omega (arith, less, lt)), f.2)),
  (λ h.
      let g = all.1 h in elim (cases_lt g.0 place) [
        | inl less ↦ some.1 (g.0, less, g.2)
        | inr ge ↦
            let more : place * stride ≤ g.0 * stride = mul-le-mul_right stride ge in
            absurd (far slot element (offset + g.0 * stride) (omega (arith, within, behind, more)) g.2)
      ]),
)

-- ---- members

pub split_at : (members : List StructMember) (place : ℕ) (m : StructMember) → place < length members → m ≡ get_or members place m
    → map member_view (drop place members) ≡ member_view m ∷ map member_view (drop (place + 1) members)
split_at members place m lt is =
    let split : drop place members ≡ get_or members place m ∷ drop (suc place) members = drop-cons members place m lt in
    let next : suc place ≡ place + 1 = omega arith in
    ap (map member_view) split ∙ (ap (λ x. member_view x ∷ map member_view (drop (suc place) members)) (sym is) ∙ ap (λ n. member_view m ∷ map member_view (drop n members)) next)

pub member_more : (slot : ℕ) (tree : ℕ → Tree) (m : PlainMember) (rest rest-before all : List PlainMember) (offset a b both : ℕ) → both ≡ bit_or a b → rest-before ≡ m ∷ rest
    → IsIn b slot ↔ IsReached slot (tree m.ty) (offset + m.offset)
    → (IsIn a slot ⊎ IsReachedIn slot (members_by tree rest-before) offset) ↔ IsReachedIn slot (members_by tree all) offset
    → (IsIn both slot ⊎ IsReachedIn slot (members_by tree rest) offset) ↔ IsReachedIn slot (members_by tree all) offset
member_more slot tree m rest rest-before all offset a b both is split here before =
    let known : (IsIn a slot ⊎ IsReachedIn slot (members_by tree (m ∷ rest)) offset) ↔ IsReachedIn slot (members_by tree all) offset = subst (λ ms. (IsIn a slot ⊎ IsReachedIn slot (members_by tree ms) offset) ↔ IsReachedIn slot (members_by tree all) offset) split before in
    let union = union_by_slots a b slot in (
      (λ h. elim h [
        | inl e ↦ elim (union.0 (subst (λ s. IsIn s slot) is e)) [ inl x ↦ known.0 (inl x) | inr y ↦ known.0 (inr (inl (here.0 y))) ]
        | inr later ↦ known.0 (inr (inr later))
      ]),
      (λ h. elim (known.1 h) [
        | inl x ↦ inl (subst (λ s. IsIn s slot) (sym is) (union.1 (inl x)))
        | inr r ↦ elim r [ inl now ↦ inl (subst (λ s. IsIn s slot) (sym is) (union.1 (inr (here.1 now)))) | inr later ↦ inr later ]
      ]),
    )

-- ---- types by their handles

-- a value without leaves overlaps no slot
pub none_met : (slot : ℕ) (Met : Type 0) → (Met → ⊥) → IsIn 0 slot ↔ Met
none_met slot Met not = ((λ e. absurd (none_in slot e)), (λ h. absurd (not h)))

pub none_along : (types : List PlainType) (depth handle slot offset : ℕ) → depth ≡ 0 → IsReached slot (tree_along types depth handle) offset → ⊥
unfolding tree_along
none_along types zero handle slot offset is h = h
none_along types (suc n) handle slot offset is h = absurd (omega (arith, is))

pub missing_along : (types : List PlainType) (depth handle slot offset : ℕ) → inner_at types handle ≡ None → IsReached slot (tree_along types depth handle) offset → ⊥
unfolding tree_along
missing_along types zero handle slot offset at h = h
missing_along types (suc n) handle slot offset at h = subst (λ i. IsReached slot (tree_found (tree_along types n) i) offset) at h

pub found_along : (types : List PlainType) (depth handle : ℕ) (i : PlainInner) → depth ≢ 0 → inner_at types handle ≡ Some i
    → tree_along types depth handle ≡ tree_by (tree_along types (depth - 1)) i
unfolding tree_along
found_along types zero handle i some at = absurd (some refl)
found_along types (suc n) handle i some at = ap (tree_found (tree_along types n)) at ∙ (let e : n ≡ suc n - 1 = omega arith in ap (λ m. tree_by (tree_along types m) i) e)

pub met_found : (slot : ℕ) (s t : Tree) (offset a : ℕ) → s ≡ t → IsIn a slot ↔ IsReached slot t offset → IsIn a slot ↔ IsReached slot s offset
met_found slot s t offset a same met = subst (λ x. IsIn a slot ↔ IsReached slot x offset) (sym same) met
