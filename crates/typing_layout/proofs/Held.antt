-- The contents of layouters.
use Rattle.std.proofs.Common.{◌≡◌, ◌<◌, ◌≤◌, ◌+◌, ◌++◌, ℕ, zero, suc, List, [], ◌∷◌, Some, All, length, take, slice_get, refl, sym, ap, subst, ◌∙◌, ◌⊎◌, inl, inr, arith, length-append}
use Rattle.std.proofs.Math.Bridge.{le_prop}
use Rattle.std.proofs.Math.Seq.{take-length}
use Rattle.std.proofs.lemmas.List.{take-append-le}
use Rattle.std.proofs.lemmas.Option.{slice_get_within}
use Rattle.typing_forms.specs.IrArena.{value_at, Span}
use Rattle.typing_forms.specs.IrTypes.{PlainInner, PlainType, inner_view, IrType}
use Rattle.typing_forms.specs.judged.Order.{named_types, TypesGoBack}
use Rattle.typing_forms.specs.judged.Resolutions.{types_view, inner_at}
use Rattle.typing_forms.proofs.Lookups.{inner_found}
use Rattle.typing_layout.specs.judged.Tree.{Tree}
use Rattle.typing_layout.specs.judged.View.{tree_by, type_tree}
use Rattle.typing_layout.proofs.Trees.{tree_by_trees, trees_stay}
use Rattle.typing_layout.specs.declared.error.LayoutError.{LayoutError}
use Rattle.typing_layout.specs.declared.layout.TypeLayout.{TypeLayout}
use Rattle.typing_layout.specs.found.Held.{IsLayoutOf, AreLayouts, IsFaultOf, IsRefused, OneLayout, LayoutsStay}
use Rattle.typing_layout.specs.found.Laid.{AreAligned}

-- lists with the same elements are equal
same_list : {A : Type 0} (xs ys : List A) → length xs ≡ length ys → ((k : ℕ) (x y : A) → slice_get xs k ≡ Some x → slice_get ys k ≡ Some y → x ≡ y) → xs ≡ ys
same_list [] [] e h = refl
same_list [] (y ∷ ys) e h = absurd (omega arith)
same_list (x ∷ xs) [] e h = absurd (omega arith)
same_list (x ∷ xs) (y ∷ ys) e h =
    let first : x ≡ y = h 0 x y refl refl in
    let rest : xs ≡ ys = same_list xs ys (omega arith) (λ k. h (suc k)) in
    λ i. first i ∷ rest i

layout_at : (size alignment : ℕ) → size + alignment ≤ 4294967296 → TypeLayout
layout_at s a h = record { size = s; alignment = a; in_range = h }

same_parts : (s s' a a' : ℕ) (h : s + a ≤ 4294967296) (h' : s' + a' ≤ 4294967296) → s ≡ s' → a ≡ a' → layout_at s a h ≡ layout_at s' a' h'
same_parts s s' a a' h h' es ea =
    subst (λ x. (g : x + a' ≤ 4294967296) → layout_at s a h ≡ layout_at x a' g) es
    (subst (λ y. (g : s + y ≤ 4294967296) → layout_at s a h ≡ layout_at s y g) ea (λ g. ap (layout_at s a) (le_prop h g))) h'

same_layout : (t : Tree) (a b : TypeLayout) → IsLayoutOf t a → IsLayoutOf t b → a ≡ b
unfolding layout_at
same_layout t a b ha hb = same_parts a.size b.size a.alignment b.alignment a.in_range b.in_range (ha.size ∙ sym hb.size) (ha.alignment ∙ sym hb.alignment)

pub one_layout : OneLayout
one_layout types left right l r e = same_list left right e (λ k x y a b. same_layout (type_tree types k) x y (l.each k x a) (r.each k y b))

pub layouts_stay : LayoutsStay
layouts_stay types more layouts back held = record {
  within = omega (arith, held.within, length-append types more);
  each = λ handle l at.
      let lt : handle < length types = omega (arith, slice_get_within layouts handle l at, held.within) in
      subst (λ t. IsLayoutOf t l) (sym (trees_stay types more back handle lt)) (held.each handle l at);
}

-- the elements after one was appended
pub pushed : {A : Type 0} (xs : List A) (x : A) (k : ℕ) (y : A) → slice_get (xs ++ x ∷ []) k ≡ Some y → (slice_get xs k ≡ Some y) ⊎ ((k ≡ length xs) × (x ≡ y))
pushed [] x zero y e = inr (refl, cc)
pushed [] x (suc k) y e = cc
pushed (z ∷ xs) x zero y e = inl e
pushed (z ∷ xs) x (suc k) y e = elim (pushed xs x k y e) [ inl old ↦ inl old | inr new ↦ inr (ap suc new.0, new.1) ]

-- ---- type by type

-- the first types are laid out, this many
pub record AreFirst (types : List PlainType) (old layouts : List TypeLayout) (place : ℕ) : Type 0 where
  pub next : length layouts ≡ place
  pub held : AreLayouts types layouts
  pub earlier : take (length old) layouts ≡ old
  pub behind : length old ≤ place

pub first_of : (types : List PlainType) (layouts : List TypeLayout) (place : ℕ) → AreLayouts types layouts → place ≡ length layouts → AreFirst types layouts layouts place
first_of types layouts place held is = record { next = sym is; held = held; earlier = take-length layouts; behind = omega arith }

pub aligned_all : (types : List PlainType) (layouts : List TypeLayout) → AreLayouts types layouts → AreAligned (type_tree types) layouts
aligned_all types layouts held = record { each = λ handle l at. (held.each handle l at).alignment }

within_types : (types : List PlainType) (handle : ℕ) (i : PlainInner) → inner_at types handle ≡ Some i → handle < length types
within_types [] handle i e = absurd (let h = e in cc)
within_types (x ∷ xs) zero i e = omega arith
within_types (x ∷ xs) (suc h) i e = let before : h < length xs = within_types xs h i e in omega arith

pub names_below : (types : List PlainType) (old layouts : List TypeLayout) (place : ℕ) (i : PlainInner) → TypesGoBack types → AreFirst types old layouts place → inner_at types place ≡ Some i
    → All (λ named. named < length layouts) (named_types i)
names_below types old layouts place i back first at = subst (λ n. All (λ named. named < n) (named_types i)) (sym first.next) (back.each place i at)

pub one_layout_more : (types : List PlainType) (old layouts : List TypeLayout) (place : ℕ) (i : PlainInner) (l : TypeLayout) → TypesGoBack types → AreFirst types old layouts place
    → inner_at types place ≡ Some i → ((tree : ℕ → Tree) → AreAligned tree layouts → IsLayoutOf (tree_by tree i) l) → AreFirst types old (layouts ++ l ∷ []) (place + 1)
one_layout_more types old layouts place i l back first at laid = record {
  next = omega (arith, length-append layouts (l ∷ []), first.next);
  held = record {
    within = let lt : place < length types = within_types types place i at in omega (arith, length-append layouts (l ∷ []), first.next, lt);
    each = λ handle x s. elim (pushed layouts l handle x s) [
      | inl already ↦ first.held.each handle x already
      | inr new ↦
          subst (λ y. IsLayoutOf (type_tree types handle) y) new.1
          (subst (λ h. IsLayoutOf (type_tree types h) l) (sym (new.0 ∙ first.next))
          (subst (λ t. IsLayoutOf t l) (sym (tree_by_trees types back place i at)) (laid (type_tree types) (aligned_all types layouts first.held))))
    ];
  };
  earlier = take-append-le (length old) layouts (l ∷ []) (omega (arith, first.next, first.behind)) ∙ first.earlier;
  behind = omega (arith, first.behind);
}

pub refused_at : (types : List PlainType) (old layouts : List TypeLayout) (place : ℕ) (i : PlainInner) (e : LayoutError) → TypesGoBack types → AreFirst types old layouts place
    → inner_at types place ≡ Some i → e.ty ≡ place → ((tree : ℕ → Tree) → AreAligned tree layouts → IsFaultOf (tree_by tree i) e.inner) → IsRefused types layouts e
refused_at types old layouts place i e back first at is fault = record {
  next = first.next ∙ sym is;
  within = let lt : place < length types = within_types types place i at in omega (arith, is, lt);
  fault = subst (λ h. IsFaultOf (type_tree types h) e.inner) (sym is)
      (subst (λ t. IsFaultOf t e.inner) (sym (tree_by_trees types back place i at)) (fault (type_tree types) (aligned_all types layouts first.held)));
}

pub many_types : (entries : List (IrType × Span)) → length (types_view entries) ≡ length entries
many_types [] = refl
many_types (x ∷ xs) = ap suc (many_types xs)

-- ---- the same, in the form that the code proves

pub type_at : (entries : List (IrType × Span)) (place handle : ℕ) (t : IrType) → handle ≡ place → Some t ≡ value_at entries handle → inner_at (types_view entries) place ≡ Some (inner_view t.inner)
type_at entries place handle t same at = subst (λ h. inner_at (types_view entries) h ≡ Some (inner_view t.inner)) same (sym (inner_found entries handle t at))

pub names_below_at : (types : List PlainType) (old layouts : List TypeLayout) (place : ℕ) (i : PlainInner) (slice : List TypeLayout) → TypesGoBack types → AreFirst types old layouts place
    → inner_at types place ≡ Some i → slice ≡ layouts → All (λ named. named < length slice) (named_types i)
names_below_at types old layouts place i slice back first at same = subst (λ ls. All (λ named. named < length ls) (named_types i)) (sym same) (names_below types old layouts place i back first at)

pub refused_here : (types : List PlainType) (old layouts : List TypeLayout) (place : ℕ) (i : PlainInner) (slice : List TypeLayout) (e e' : LayoutError) → TypesGoBack types
    → AreFirst types old layouts place → inner_at types place ≡ Some i → slice ≡ layouts → e.ty ≡ place → ((tree : ℕ → Tree) → AreAligned tree slice → IsFaultOf (tree_by tree i) e.inner) → e' ≡ e
    → IsRefused types layouts e'
refused_here types old layouts place i slice e e' back first at same is fault told =
    subst (IsRefused types layouts) (sym told)
    (refused_at types old layouts place i e back first at is (λ tree a. fault tree (subst (AreAligned tree) (sym same) a)))

pub one_layout_more_at : (types : List PlainType) (old layouts : List TypeLayout) (place : ℕ) (i : PlainInner) (slice : List TypeLayout) (l : TypeLayout) (new : List TypeLayout) → TypesGoBack types
    → AreFirst types old layouts place → inner_at types place ≡ Some i → slice ≡ layouts → ((tree : ℕ → Tree) → AreAligned tree slice → IsLayoutOf (tree_by tree i) l) → new ≡ layouts ++ l ∷ []
    → AreFirst types old new (place + 1)
one_layout_more_at types old layouts place i slice l new back first at same laid is =
    subst (λ ls. AreFirst types old ls (place + 1)) (sym is)
    (one_layout_more types old layouts place i l back first at (λ tree a. laid tree (subst (AreAligned tree) (sym same) a)))
