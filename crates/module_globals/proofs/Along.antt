-- A depth limit of the number of types is enough for the tree of each type.
use Rattle.std.proofs.Common.{◌≡◌, ◌<◌, ◌≤◌, inl, inr, ℕ, zero, suc, List, [], ◌∷◌, Option, Some, None, map, length, slice_get, option_map, All, refl, sym, ap, ◌∙◌, arith}
use Rattle.std.proofs.lemmas.Bool.{cases_lt}
use Rattle.ir_arena.specs.declared.span.Span.{Span}
use Rattle.ir_types.specs.judged.Plain.{PlainMember, PlainInner, struct, plain, PlainType}
use Rattle.ir_types.specs.declared.types.IrType.{IrType}
use Rattle.ir_types.specs.declared.types.TypeInner.TheVariants as inner
use Rattle.typing_layout.proofs.Trees.{tree_by_trees}
use Rattle.typing_layout.specs.judged.Tree.{Tree, member, pointer, array, binding_array, struct as struct_tree, no_type}
use Rattle.typing_layout.specs.judged.View.{members_by, tree_by, tree_found, tree_along, type_tree}
use Rattle.typing_forms.specs.judged.Order.{named_types, TypesGoBack}
use Rattle.typing_forms.specs.judged.Resolutions.{inner_at, types_view}

-- ---- a tree depends only on the trees of the referenced types

members_alike : (f g : ℕ → Tree) (end : ℕ) (ms : List PlainMember) → ((n : ℕ) → n < end → f n ≡ g n) → All (λ named. named < end) (map (λ m. m.ty) ms)
    → members_by f ms ≡ members_by g ms
members_alike f g end [] same below = refl
members_alike f g end (m ∷ ms) same below =
    let first : f m.ty ≡ g m.ty = same m.ty (below 0 0 (omega arith)) in
    let rest : members_by f ms ≡ members_by g ms = members_alike f g end ms same (λ k d lt. below (suc k) d (omega arith)) in
    λ i. member (first i) m.binding m.offset (rest i)

tree_alike : (f g : ℕ → Tree) (end : ℕ) (i : PlainInner) → ((n : ℕ) → n < end → f n ≡ g n) → All (λ named. named < end) (named_types i)
    → tree_by f i ≡ tree_by g i
tree_alike f g end (struct members span) same below = let e = members_alike f g end members same below in ap (λ ms. struct_tree ms span) e
tree_alike f g end (plain (inner.Scalar s)) same below = refl
tree_alike f g end (plain (inner.Vector n s)) same below = refl
tree_alike f g end (plain (inner.Matrix columns rows s)) same below = refl
tree_alike f g end (plain (inner.CooperativeMatrix columns rows s role)) same below = refl
tree_alike f g end (plain (inner.Atomic s)) same below = refl
tree_alike f g end (plain (inner.Pointer base space)) same below = ap (λ t. pointer t space) (same base (below 0 0 (omega arith)))
tree_alike f g end (plain (inner.ValuePointer n s space)) same below = refl
tree_alike f g end (plain (inner.Array base size stride)) same below = ap (λ t. array t size stride) (same base (below 0 0 (omega arith)))
tree_alike f g end (plain (inner.Struct members span)) same below = refl
tree_alike f g end (plain (inner.Image dim arrayed class)) same below = refl
tree_alike f g end (plain (inner.Sampler comparison)) same below = refl
tree_alike f g end (plain (inner.AccelerationStructure vertex_return)) same below = refl
tree_alike f g end (plain (inner.RayQuery vertex_return)) same below = refl
tree_alike f g end (plain (inner.BindingArray base size)) same below = ap (λ t. binding_array t size) (same base (below 0 0 (omega arith)))

-- ---- the number of types as limit

-- the tree of the type at a handle is the same with any greater limit
enough : (types : List PlainType) → TypesGoBack types → (n handle : ℕ) → handle < n → (i : Option PlainInner) → inner_at types handle ≡ i → tree_along types n handle ≡ type_tree types handle
unfolding tree_along type_tree
enough types back zero handle lt i at = absurd (omega (arith, lt))
enough types back (suc n) handle lt None at = ap (tree_found (tree_along types n)) at ∙ sym (ap (tree_found (tree_along types handle)) at)
enough types back (suc n) handle lt (Some i) at =
    ap (tree_found (tree_along types n)) at
    ∙ (tree_alike (tree_along types n) (type_tree types) handle i (λ k below. enough types back n k (omega (arith, lt, below)) (inner_at types k) refl) (back.each handle i at)
    ∙ sym (tree_by_trees types back handle i at))

-- past the last type there is none
missing : {A : Type 0} (xs : List A) (k : ℕ) → length xs ≤ k → slice_get xs k ≡ None
missing [] k le = refl
missing (x ∷ xs) zero le = absurd (omega (arith, le))
missing (x ∷ xs) (suc k) le = missing xs k (omega (arith, le))

past_all : (types : List PlainType) (n handle : ℕ) → length types ≤ handle → tree_along types n handle ≡ no_type
unfolding tree_along
past_all types zero handle le = refl
past_all types (suc n) handle le = ap (λ t. tree_found (tree_along types n) (option_map (λ x. x.inner) t)) (missing types handle le)

all_along : (types : List PlainType) → TypesGoBack types → (handle : ℕ) → tree_along types (length types) handle ≡ type_tree types handle
unfolding type_tree
all_along types back handle = elim (cases_lt handle (length types)) [
  | inl lt ↦ enough types back (length types) handle lt (inner_at types handle) refl
  | inr le ↦ past_all types (length types) handle le ∙ sym (past_all types (suc handle) handle le)
]

pub tree_along_all : (types : List PlainType) → TypesGoBack types → (n : ℕ) → n ≡ length types → (i : PlainInner) → tree_by (tree_along types n) i ≡ tree_by (type_tree types) i
tree_along_all types back n is i =
    let same : tree_along types (length types) ≡ type_tree types = (λ j handle. all_along types back handle j) in
    ap (λ m. tree_by (tree_along types m) i) is ∙ ap (λ tree. tree_by tree i) same

pub many_types : (entries : List (IrType × Span)) → length (types_view entries) ≡ length entries
many_types [] = refl
many_types (e ∷ es) = ap suc (many_types es)
