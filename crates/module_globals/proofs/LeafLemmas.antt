-- The leaves of a value and of its parts.
use Rattle.std.proofs.Common.{◌≡◌, ◌↔◌, ◌<◌, ◌+◌, ◌*◌, ◌⊎◌, ◌++◌, inl, inr, ℕ, zero, suc, List, [], ◌∷◌, length, map, slice_index_or, refl, sym, subst, arith}
use Rattle.std.specs.List.{Contains}
use Rattle.module_globals.specs.Reached.{IsMet, IsReached, IsReachedIn}
use Rattle.module_globals.specs.Slots.{IsIn, Meets}
use Rattle.ir_types.specs.declared.types.ArraySize.{ArraySize}
use Rattle.ir_types.specs.declared.types.ArraySize.TheVariants as count
use Rattle.judgement.specs.judged.Leaves.{Leaf, leaf_inside, repeated, held_in, leaves, member_leaves}
use Rattle.typing_layout.specs.judged.Tree.{Tree, scalar, vector, matrix, cooperative_matrix, atomic, pointer, value_pointer, array, struct, image, sampler, acceleration_structure, ray_query, binding_array, Members, no_members, member}
use Rattle.typing_forms.specs.judged.Sizes.{counted}

-- ---- some leaf of a list

abbrev AnyLeaf : (P : Leaf → Type 0) → List Leaf → Type 0
AnyLeaf P [] = ⊥
AnyLeaf P (l ∷ ls) = P l ⊎ AnyLeaf P ls

any_found : (P : Leaf → Type 0) (ls : List Leaf) → AnyLeaf P ls → (l : Leaf) × Contains ls l × P l
any_found P [] h = absurd h
any_found P (l ∷ ls) h = elim h [
  | inl here ↦ (l, (0, omega arith, refl), here)
  | inr later ↦ let f = any_found P ls later in (f.0, (suc f.1.0, (let lt = f.1.1 in omega (arith, lt)), f.1.2), f.2)
]

any_at : (P : Leaf → Type 0) (ls : List Leaf) (l : Leaf) (k : ℕ) → k < length ls → slice_index_or ls k l ≡ l → P l → AnyLeaf P ls
any_at P [] l k lt e p = absurd (omega (arith, lt))
any_at P (x ∷ xs) l zero lt e p = inl (subst P (sym e) p)
any_at P (x ∷ xs) l (suc k) lt e p = inr (any_at P xs l k (omega (arith, lt)) e p)

any_either : (P : Leaf → Type 0) (ls ms : List Leaf) → AnyLeaf P (ls ++ ms) → AnyLeaf P ls ⊎ AnyLeaf P ms
any_either P [] ms h = inr h
any_either P (l ∷ ls) ms h = elim h [
  | inl here ↦ inl (inl here)
  | inr later ↦ elim (any_either P ls ms later) [ inl a ↦ inl (inr a) | inr b ↦ inr b ]
]

any_left : (P : Leaf → Type 0) (ls ms : List Leaf) → AnyLeaf P ls → AnyLeaf P (ls ++ ms)
any_left P [] ms h = absurd h
any_left P (l ∷ ls) ms h = elim h [ inl here ↦ inl here | inr later ↦ inr (any_left P ls ms later) ]

any_right : (P : Leaf → Type 0) (ls ms : List Leaf) → AnyLeaf P ms → AnyLeaf P (ls ++ ms)
any_right P [] ms h = h
any_right P (l ∷ ls) ms h = inr (any_right P ls ms h)

any_mapped : (P Q : Leaf → Type 0) (f : Leaf → Leaf) → ((l : Leaf) → P (f l) → Q l) → (ls : List Leaf) → AnyLeaf P (map f ls) → AnyLeaf Q ls
any_mapped P Q f to [] h = absurd h
any_mapped P Q f to (l ∷ ls) h = elim h [ inl here ↦ inl (to l here) | inr later ↦ inr (any_mapped P Q f to ls later) ]

any_through : (P Q : Leaf → Type 0) (f : Leaf → Leaf) → ((l : Leaf) → Q l → P (f l)) → (ls : List Leaf) → AnyLeaf Q ls → AnyLeaf P (map f ls)
any_through P Q f from [] h = absurd h
any_through P Q f from (l ∷ ls) h = elim h [ inl here ↦ inl (from l here) | inr later ↦ inr (any_through P Q f from ls later) ]

-- ---- leaves that overlap a slot, by the offset of their parent

abbrev MeetsAt : (slot offset : ℕ) → Leaf → Type 0
MeetsAt slot offset l = Meets (offset + l.first) l.length slot

moved : (slot n o p : ℕ) → o ≡ p → Meets o n slot → Meets p n slot
moved slot n o p e m = subst (λ x. Meets x n slot) e m

inside_to : (slot offset part begin : ℕ) (ls : List Leaf) → AnyLeaf (MeetsAt slot offset) (map (leaf_inside part begin) ls) → AnyLeaf (MeetsAt slot (offset + begin)) ls
inside_to slot offset part begin ls h =
    any_mapped (MeetsAt slot offset) (MeetsAt slot (offset + begin)) (leaf_inside part begin)
    (λ l m. moved slot l.length (offset + (begin + l.first)) (offset + begin + l.first) (omega arith) m) ls h

inside_from : (slot offset part begin : ℕ) (ls : List Leaf) → AnyLeaf (MeetsAt slot (offset + begin)) ls → AnyLeaf (MeetsAt slot offset) (map (leaf_inside part begin) ls)
inside_from slot offset part begin ls h =
    any_through (MeetsAt slot offset) (MeetsAt slot (offset + begin)) (leaf_inside part begin)
    (λ l m. moved slot l.length (offset + begin + l.first) (offset + (begin + l.first)) (omega arith) m) ls h

begun : (slot o p : ℕ) (ls : List Leaf) → o ≡ p → AnyLeaf (MeetsAt slot o) ls → AnyLeaf (MeetsAt slot p) ls
begun slot o p ls e h = subst (λ x. AnyLeaf (MeetsAt slot x) ls) e h

repeated_to : (slot offset stride : ℕ) (ls : List Leaf) (n part : ℕ) → AnyLeaf (MeetsAt slot offset) (repeated n part stride ls)
    → (place : ℕ) × (place < n) × AnyLeaf (MeetsAt slot (offset + (part + place) * stride)) ls
unfolding repeated
repeated_to slot offset stride ls zero part h = absurd h
repeated_to slot offset stride ls (suc n) part h =
    elim (any_either (MeetsAt slot offset) (map (leaf_inside part (part * stride)) ls) (repeated n (suc part) stride ls) h) [
      | inl here ↦ (0, omega arith, begun slot (offset + part * stride) (offset + (part + 0) * stride) ls (omega arith) (inside_to slot offset part (part * stride) ls here))
      | inr later ↦
          let f = repeated_to slot offset stride ls n (suc part) later in
          (suc f.0, (let lt = f.1 in omega (arith, lt)), begun slot (offset + (suc part + f.0) * stride) (offset + (part + suc f.0) * stride) ls (omega arith) f.2)
    ]

repeated_from : (slot offset stride : ℕ) (ls : List Leaf) (n part place : ℕ) → place < n → AnyLeaf (MeetsAt slot (offset + (part + place) * stride)) ls
    → AnyLeaf (MeetsAt slot offset) (repeated n part stride ls)
unfolding repeated
repeated_from slot offset stride ls zero part place lt h = absurd (omega (arith, lt))
repeated_from slot offset stride ls (suc n) part zero lt h =
    any_left (MeetsAt slot offset) (map (leaf_inside part (part * stride)) ls) (repeated n (suc part) stride ls)
    (inside_from slot offset part (part * stride) ls (begun slot (offset + (part + 0) * stride) (offset + part * stride) ls (omega arith) h))
repeated_from slot offset stride ls (suc n) part (suc place) lt h =
    any_right (MeetsAt slot offset) (map (leaf_inside part (part * stride)) ls) (repeated n (suc part) stride ls)
    (repeated_from slot offset stride ls n (suc part) place (omega (arith, lt)) (begun slot (offset + (part + suc place) * stride) (offset + (suc part + place) * stride) ls (omega arith) h))

-- ---- from leaves to parts and back

held_counted : (n : ArraySize) → held_in 1 n ≡ counted n
held_counted (count.Constant n) = refl
held_counted (count.Pending o) = refl
held_counted count.Dynamic = refl

from_whole : (slot offset n : ℕ) → Meets (offset + 0) n slot ⊎ ⊥ → Meets offset n slot
from_whole slot offset n h = elim h [ inl m ↦ moved slot n (offset + 0) offset (omega arith) m | inr f ↦ absurd f ]

to_whole : (slot offset n : ℕ) → Meets offset n slot → Meets (offset + 0) n slot ⊎ ⊥
to_whole slot offset n m = inl (moved slot n offset (offset + 0) (omega arith) m)

from_elements : (slot : ℕ) (base : Tree) (n : ArraySize) (stride offset : ℕ)
    → ((o : ℕ) → AnyLeaf (MeetsAt slot o) (leaves 1 base) → IsReached slot base o)
    → AnyLeaf (MeetsAt slot offset) (repeated (held_in 1 n) 0 stride (leaves 1 base)) → IsReached slot (array base n stride) offset
from_elements slot base n stride offset each h =
    let f = repeated_to slot offset stride (leaves 1 base) (held_in 1 n) 0 h in (
      f.0,
      subst (λ c. f.0 < c) (held_counted n) f.1,
      each (offset + f.0 * stride) (begun slot (offset + (0 + f.0) * stride) (offset + f.0 * stride) (leaves 1 base) (omega arith) f.2),
    )

to_elements : (slot : ℕ) (base : Tree) (n : ArraySize) (stride offset : ℕ)
    → ((o : ℕ) → IsReached slot base o → AnyLeaf (MeetsAt slot o) (leaves 1 base))
    → IsReached slot (array base n stride) offset → AnyLeaf (MeetsAt slot offset) (repeated (held_in 1 n) 0 stride (leaves 1 base))
to_elements slot base n stride offset each h =
    repeated_from slot offset stride (leaves 1 base) (held_in 1 n) 0 h.0 (subst (λ c. h.0 < c) (sym (held_counted n)) h.1)
    (begun slot (offset + h.0 * stride) (offset + (0 + h.0) * stride) (leaves 1 base) (omega arith) (each (offset + h.0 * stride) h.2))

mutual
  from_leaves : (slot : ℕ) (t : Tree) (offset : ℕ) → AnyLeaf (MeetsAt slot offset) (leaves 1 t) → IsReached slot t offset
  from_leaves slot (scalar s) offset h = from_whole slot offset _ h
  from_leaves slot (vector n s) offset h = from_whole slot offset _ h
  from_leaves slot (matrix columns rows s) offset h = from_whole slot offset _ h
  from_leaves slot (cooperative_matrix columns rows s role) offset h = from_whole slot offset _ h
  from_leaves slot (atomic s) offset h = from_whole slot offset _ h
  from_leaves slot (pointer base space) offset h = absurd h
  from_leaves slot (value_pointer n s space) offset h = absurd h
  from_leaves slot (array base n stride) offset h = from_elements slot base n stride offset (λ o g. from_leaves slot base o g) h
  from_leaves slot (struct ms span) offset h = from_members slot ms offset 0 h
  from_leaves slot (image dim arrayed class) offset h = absurd h
  from_leaves slot (sampler comparison) offset h = absurd h
  from_leaves slot (acceleration_structure vertex_return) offset h = absurd h
  from_leaves slot (ray_query vertex_return) offset h = absurd h
  from_leaves slot (binding_array base n) offset h = absurd h

  from_members : (slot : ℕ) (ms : Members) (offset part : ℕ) → AnyLeaf (MeetsAt slot offset) (member_leaves 1 part ms) → IsReachedIn slot ms offset
  from_members slot no_members offset part h = absurd h
  from_members slot (member t binding begin ms) offset part h =
      elim (any_either (MeetsAt slot offset) (map (leaf_inside part begin) (leaves 1 t)) (member_leaves 1 (suc part) ms) h) [
        | inl here ↦ inl (from_leaves slot t (offset + begin) (inside_to slot offset part begin (leaves 1 t) here))
        | inr later ↦ inr (from_members slot ms offset (suc part) later)
      ]

mutual
  to_leaves : (slot : ℕ) (t : Tree) (offset : ℕ) → IsReached slot t offset → AnyLeaf (MeetsAt slot offset) (leaves 1 t)
  to_leaves slot (scalar s) offset h = to_whole slot offset _ h
  to_leaves slot (vector n s) offset h = to_whole slot offset _ h
  to_leaves slot (matrix columns rows s) offset h = to_whole slot offset _ h
  to_leaves slot (cooperative_matrix columns rows s role) offset h = to_whole slot offset _ h
  to_leaves slot (atomic s) offset h = to_whole slot offset _ h
  to_leaves slot (pointer base space) offset h = absurd h
  to_leaves slot (value_pointer n s space) offset h = absurd h
  to_leaves slot (array base n stride) offset h = to_elements slot base n stride offset (λ o g. to_leaves slot base o g) h
  to_leaves slot (struct ms span) offset h = to_members slot ms offset 0 h
  to_leaves slot (image dim arrayed class) offset h = absurd h
  to_leaves slot (sampler comparison) offset h = absurd h
  to_leaves slot (acceleration_structure vertex_return) offset h = absurd h
  to_leaves slot (ray_query vertex_return) offset h = absurd h
  to_leaves slot (binding_array base n) offset h = absurd h

  to_members : (slot : ℕ) (ms : Members) (offset part : ℕ) → IsReachedIn slot ms offset → AnyLeaf (MeetsAt slot offset) (member_leaves 1 part ms)
  to_members slot no_members offset part h = absurd h
  to_members slot (member t binding begin ms) offset part h = elim h [
    | inl here ↦ any_left (MeetsAt slot offset) (map (leaf_inside part begin) (leaves 1 t)) (member_leaves 1 (suc part) ms) (inside_from slot offset part begin (leaves 1 t) (to_leaves slot t (offset + begin) here))
    | inr later ↦ any_right (MeetsAt slot offset) (map (leaf_inside part begin) (leaves 1 t)) (member_leaves 1 (suc part) ms) (to_members slot ms offset (suc part) later)
  ]

-- a value overlaps a slot exactly if one of its leaves does
pub reached_met : (slot : ℕ) (t : Tree) (offset : ℕ) → IsReached slot t offset ↔ IsMet slot t offset
reached_met slot t offset = (
  (λ h. let f = any_found (MeetsAt slot offset) (leaves 1 t) (to_leaves slot t offset h) in record { leaf = f.0; among = f.1; meets = f.2 }),
  (λ m. from_leaves slot t offset (any_at (MeetsAt slot offset) (leaves 1 t) m.leaf m.among.0 m.among.1 m.among.2 m.meets)),
)

pub met_all : (slot : ℕ) (s t : Tree) (offset a : ℕ) → s ≡ t → IsIn a slot ↔ IsReached slot s offset → IsIn a slot ↔ IsMet slot t offset
met_all slot s t offset a same met =
    let known : IsIn a slot ↔ IsReached slot t offset = subst (λ x. IsIn a slot ↔ IsReached slot x offset) same met in
    let law = reached_met slot t offset in ((λ e. law.0 (known.0 e)), (λ m. known.1 (law.1 m)))
