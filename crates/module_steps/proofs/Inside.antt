-- What holds inside a struct, from what holds of its members.
use Rattle.std.proofs.Common.{◌≡◌, inl, inr, ℕ, zero, suc, Some, slice_get, refl, sym, subst}
use Rattle.typing_layout.specs.judged.Parts.{TreeMember, member_list, Everywhere, EverywhereIn, Somewhere, SomewhereIn}
use Rattle.typing_layout.specs.judged.Tree.{Tree, scalar, vector, matrix, cooperative_matrix, atomic, pointer, value_pointer, array, struct, image, sampler, acceleration_structure, ray_query, binding_array, Members, no_members, member}
use Rattle.module_type_checks.specs.Placed.{AtPlace}

-- each member has the property everywhere
pub everywhere_in : (P : Tree → Type 0) (ms : Members) → ((k : ℕ) → AtPlace (λ k p. Everywhere P p.of_type) (member_list ms) k) → EverywhereIn P ms
everywhere_in P no_members h = tt
everywhere_in P (member t b o ms) h = (let here : TreeMember = record { of_type = t; binding = b; offset = o } in h 0 here refl, everywhere_in P ms (λ k. h (suc k)))

-- a member has the property somewhere
pub somewhere_in : (P : Tree → Type 0) (ms : Members) (k : ℕ) (p : TreeMember) → slice_get (member_list ms) k ≡ Some p → Somewhere P p.of_type → SomewhereIn P ms
somewhere_in P no_members k p e h = cc
somewhere_in P (member t b o ms) zero p e h = let q : p ≡ record { of_type = t; binding = b; offset = o } = cc in inl (subst (λ (x : TreeMember). Somewhere P x.of_type) q h)
somewhere_in P (member t b o ms) (suc k) p e h = inr (somewhere_in P ms k p e h)

pub somewhere_struct : (P : Tree → Type 0) (t : Tree) (ms : Members) (span k : ℕ) (p : TreeMember) → t ≡ struct ms span → slice_get (member_list ms) k ≡ Some p → Somewhere P p.of_type → Somewhere P t
somewhere_struct P t ms span k p is e h = subst (Somewhere P) (sym is) (inr (somewhere_in P ms k p e h))

pub somewhere_here : (P : Tree → Type 0) (t : Tree) → P t → Somewhere P t
somewhere_here P (scalar s) h = h
somewhere_here P (vector n s) h = h
somewhere_here P (matrix columns rows s) h = h
somewhere_here P (cooperative_matrix columns rows s role) h = h
somewhere_here P (atomic s) h = h
somewhere_here P (pointer base space) h = h
somewhere_here P (value_pointer n s space) h = h
somewhere_here P (array base n stride) h = inl h
somewhere_here P (struct ms span) h = inl h
somewhere_here P (image dim arrayed class) h = h
somewhere_here P (sampler comparison) h = h
somewhere_here P (acceleration_structure vertex_return) h = h
somewhere_here P (ray_query vertex_return) h = h
somewhere_here P (binding_array base n) h = h
