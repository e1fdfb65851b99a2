-- The tree of a type consists of the trees of the types that it refers to, and appending types keeps it.
use Rattle.std.proofs.Common.{◌≡◌, ◌<◌, ℕ, zero, suc, List, [], ◌∷◌, ◌++◌, Option, Some, None, map, option_map, length, slice_get, All, refl, ap, ◌∙◌, arith}
use Rattle.typing_forms.specs.IrTypes.{PlainMember, PlainInner, struct, plain, PlainType}
use Rattle.typing_forms.specs.IrTypes.inner as inner
use Rattle.typing_forms.specs.judged.Order.{named_types, TypesGoBack}
use Rattle.typing_forms.specs.judged.Resolutions.{inner_at}
use Rattle.typing_layout.specs.judged.Tree.{Tree, member, pointer, array, binding_array, struct as struct_tree}
use Rattle.typing_layout.specs.judged.View.{members_by, tree_by, tree_found, tree_along, type_tree, TreeByTrees, TreesStay}

-- ---- only the trees of the types that are referred to matter

members_alike : (f g : ℕ → Tree) (b : ℕ) (ms : List PlainMember) → ((n : ℕ) → n < b → f n ≡ g n) → All (λ named. named < b) (map (λ m. m.ty) ms)
    → members_by f ms ≡ members_by g ms
members_alike f g b [] same below = refl
members_alike f g b (m ∷ ms) same below =
    let first : f m.ty ≡ g m.ty = same m.ty (below 0 0 (omega arith)) in
    let rest : members_by f ms ≡ members_by g ms = members_alike f g b ms same (λ k d lt. below (suc k) d (omega arith)) in
    λ i. member (first i) m.binding m.offset (rest i)

tree_alike : (f g : ℕ → Tree) (b : ℕ) (i : PlainInner) → ((n : ℕ) → n < b → f n ≡ g n) → All (λ named. named < b) (named_types i)
    → tree_by f i ≡ tree_by g i
tree_alike f g b (struct members span) same below = let e = members_alike f g b members same below in ap (λ ms. struct_tree ms span) e
tree_alike f g b (plain (inner.Scalar s)) same below = refl
tree_alike f g b (plain (inner.Vector n s)) same below = refl
tree_alike f g b (plain (inner.Matrix columns rows s)) same below = refl
tree_alike f g b (plain (inner.CooperativeMatrix columns rows s role)) same below = refl
tree_alike f g b (plain (inner.Atomic s)) same below = refl
tree_alike f g b (plain (inner.Pointer base space)) same below = ap (λ t. pointer t space) (same base (below 0 0 (omega arith)))
tree_alike f g b (plain (inner.ValuePointer n s space)) same below = refl
tree_alike f g b (plain (inner.Array base size stride)) same below = ap (λ t. array t size stride) (same base (below 0 0 (omega arith)))
tree_alike f g b (plain (inner.Struct members span)) same below = refl
tree_alike f g b (plain (inner.Image dim arrayed class)) same below = refl
tree_alike f g b (plain (inner.Sampler comparison)) same below = refl
tree_alike f g b (plain (inner.AccelerationStructure vertex_return)) same below = refl
tree_alike f g b (plain (inner.RayQuery vertex_return)) same below = refl
tree_alike f g b (plain (inner.BindingArray base size)) same below = ap (λ t. binding_array t size) (same base (below 0 0 (omega arith)))

found_alike : (types : List PlainType) → TypesGoBack types → (f g : ℕ → Tree) (handle : ℕ) (i : Option PlainInner) → inner_at types handle ≡ i
    → ((n : ℕ) → n < handle → f n ≡ g n) → tree_found f i ≡ tree_found g i
found_alike types back f g handle None at same = refl
found_alike types back f g handle (Some i) at same = tree_alike f g handle i same (back.each handle i at)

-- ---- a depth equal to the handle's index is enough

along_enough : (types : List PlainType) → TypesGoBack types → (n m handle : ℕ) → handle < n → handle < m → tree_along types n handle ≡ tree_along types m handle
unfolding tree_along
along_enough types back zero m handle a b = absurd (omega arith)
along_enough types back (suc n) zero handle a b = absurd (omega arith)
along_enough types back (suc n) (suc m) handle a b =
    found_alike types back (tree_along types n) (tree_along types m) handle (inner_at types handle) refl
    (λ k lt. along_enough types back n m k (omega arith) (omega arith))

pub tree_by_trees : TreeByTrees
unfolding tree_along type_tree
tree_by_trees types back handle i at =
    ap (tree_found (tree_along types handle)) at
    ∙ tree_alike (tree_along types handle) (type_tree types) handle i (λ k lt. along_enough types back handle (suc k) k lt (omega arith)) (back.each handle i at)

-- ---- appended types

at_first : {A : Type 0} (xs ys : List A) (k : ℕ) → k < length xs → slice_get (xs ++ ys) k ≡ slice_get xs k
at_first [] ys k lt = absurd (omega arith)
at_first (x ∷ xs) ys zero lt = refl
at_first (x ∷ xs) ys (suc k) lt = at_first xs ys k (omega arith)

along_stays : (types more : List PlainType) → TypesGoBack types → (n handle : ℕ) → handle < length types → tree_along (types ++ more) n handle ≡ tree_along types n handle
unfolding tree_along
along_stays types more back zero handle lt = refl
along_stays types more back (suc n) handle lt =
    let here : inner_at (types ++ more) handle ≡ inner_at types handle = ap (option_map (λ t. t.inner)) (at_first types more handle lt) in
    ap (tree_found (tree_along (types ++ more) n)) here
    ∙ found_alike types back (tree_along (types ++ more) n) (tree_along types n) handle (inner_at types handle) refl
    (λ k below. along_stays types more back n k (omega arith))

pub trees_stay : TreesStay
unfolding type_tree
trees_stay types more back handle lt = along_stays types more back (suc handle) handle lt
