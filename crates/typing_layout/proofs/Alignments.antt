-- The alignment of a struct, member by member.
use Rattle.std.proofs.Common.{◌≡◌, ◌<◌, ◌≤◌, ◌+◌, ℕ, zero, suc, List, [], ◌∷◌, All, map, max, drop, length, get_or, refl, sym, ap, subst, ◌∙◌, arith, add-one}
use Rattle.std.proofs.lemmas.Option.{slice_get-get_or}
use Rattle.std.proofs.Math.Seq.{drop-cons}
use Rattle.typing_forms.specs.IrTypes.{member_view, inner_view, StructMember, TypeInner}
use Rattle.typing_forms.specs.IrTypes.inner as inner
use Rattle.typing_forms.specs.judged.Order.{named_types}
use Rattle.typing_layout.specs.judged.Layout.{alignment, greatest_alignment}
use Rattle.typing_layout.specs.judged.Tree.{Tree, Members, no_members, member}
use Rattle.typing_layout.specs.judged.View.{members_by, tree_by}
use Rattle.typing_layout.specs.declared.layout.TypeLayout.{TypeLayout}
use Rattle.typing_layout.specs.found.Laid.{AreAligned, IsWidthOK}

pub below_at : (ms : List StructMember) (k n : ℕ) (d : StructMember) → All (λ m. m.ty < n) ms → k < length ms → (get_or ms k d).ty < n
below_at ms k n d all lt = all k d lt

pub aligned_at : (tree : ℕ → Tree) (ls : List TypeLayout) (k : ℕ) (d : TypeLayout) → AreAligned tree ls → k < length ls → (get_or ls k d).alignment ≡ alignment (tree k)
aligned_at tree ls k d a lt = a.each k (get_or ls k d) (slice_get-get_or ls k d lt)

pub one_or_more : (ms : Members) → 1 ≤ greatest_alignment ms
one_or_more no_members = omega arith
one_or_more (member t binding offset ms) = let h : 1 ≤ greatest_alignment ms = one_or_more ms in omega arith

pub greatest_next : (tree : ℕ → Tree) (ms : List StructMember) (k : ℕ) (d : StructMember) → k < length ms
    → greatest_alignment (members_by tree (map member_view (drop k ms))) ≡ max (alignment (tree (get_or ms k d).ty)) (greatest_alignment (members_by tree (map member_view (drop (k + 1) ms))))
greatest_next tree ms k d lt = rw (add-one, drop-cons ms k d lt) refl

-- one more member in a running maximum
pub next_greatest : (new acc a b rest tail all : ℕ) → new ≡ max acc a → a ≡ b → rest ≡ max b tail → max acc rest ≡ all → max new tail ≡ all
next_greatest new acc a b rest tail all p q r s = omega arith

-- the layout of a member's type has the alignment of its tree
pub member_aligned : (tree : ℕ → Tree) (ms : List StructMember) (ls : List TypeLayout) (k : ℕ) (m : StructMember) (j : ℕ) (d : TypeLayout) → All (λ m. m.ty < length ls) ms
    → k < length ms → m ≡ get_or ms k m → j ≡ m.ty → AreAligned tree ls → (get_or ls j d).alignment ≡ alignment (tree (get_or ms k m).ty)
member_aligned tree ms ls k m j d all lt is at aligned =
    let below : (get_or ms k m).ty < length ls = all k m lt in
    let same : j ≡ (get_or ms k m).ty = at ∙ ap (λ x. x.ty) is in
    subst (λ i. (get_or ls i d).alignment ≡ alignment (tree (get_or ms k m).ty)) (sym same) (aligned_at tree ls (get_or ms k m).ty d aligned below)

-- ---- the types that a type refers to come before it

members_below : (n : ℕ) (ms : List StructMember) → All (λ named. named < n) (map (λ m. m.ty) (map member_view ms)) → All (λ m. m.ty < n) ms
members_below n [] h k d lt = absurd (omega arith)
members_below n (m ∷ ms) h zero d lt = h zero 0 (omega arith)
members_below n (m ∷ ms) h (suc k) d lt = members_below n ms (λ j e l. h (suc j) e (omega arith)) k d (omega arith)

pub struct_members_below : (n : ℕ) (i : TypeInner) (members span : _) (ms : List StructMember) → i ≡ inner.Struct members span → ms ≡ members.items
    → All (λ named. named < n) (named_types (inner_view i)) → All (λ m. m.ty < n) ms
struct_members_below n i members span ms is same all =
    subst (λ xs. All (λ m. m.ty < n) xs) (sym same)
    (members_below n members.items (subst (λ x. All (λ named. named < n) (named_types (inner_view x))) is all))

pub array_aligned : (tree : ℕ → Tree) (ls : List TypeLayout) (i : TypeInner) (base size stride : _) (k : ℕ) (d : TypeLayout) → i ≡ inner.Array base size stride → k ≡ base
    → All (λ named. named < length ls) (named_types (inner_view i)) → AreAligned tree ls
    → IsWidthOK (tree_by tree (inner_view i)) × ((get_or ls k d).alignment ≡ alignment (tree_by tree (inner_view i)))
array_aligned tree ls i base size stride k d is at all aligned =
    let below : base < length ls = subst (λ x. All (λ named. named < length ls) (named_types (inner_view x))) is all 0 0 (omega arith) in
    let here : (get_or ls k d).alignment ≡ alignment (tree base) = subst (λ j. (get_or ls j d).alignment ≡ alignment (tree base)) (sym at) (aligned_at tree ls base d aligned below) in
    subst (λ x. IsWidthOK (tree_by tree (inner_view x)) × ((get_or ls k d).alignment ≡ alignment (tree_by tree (inner_view x)))) (sym is) (tt, here)
