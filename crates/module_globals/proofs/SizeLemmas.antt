-- The sizes of types, by their trees.
use Rattle.std.proofs.Common.{◌≡◌, ◌≤◌, ◌+◌, ◌⊎◌, inl, inr, ℕ, zero, suc, List, [], ◌∷◌, Option, Some, None, length, map, slice_get, option_map, refl, sym, ap, subst, ◌∙◌, arith}
use Rattle.std.proofs.lemmas.Bool.{cases_lt}
use Rattle.module_globals.specs.Sizes.{AreGreatest, TakesBytes}
use Rattle.ir_arena.specs.found.Arenas.{value_at}
use Rattle.ir_arena.specs.declared.span.Span.{Span}
use Rattle.ir_items.specs.judged.GlobalPlain.{PlainGlobal}
use Rattle.ir_items.specs.found.GlobalView.{values_of, global_view}
use Rattle.ir_items.specs.declared.globals.GlobalVariable.{GlobalVariable}
use Rattle.ir_items.specs.judged.Plain.{PlainModule}
use Rattle.ir_kinds.specs.declared.spaces.AddressSpace.TheVariants.{Immediate}
use Rattle.ir_types.specs.judged.Plain.{PlainInner, PlainType}
use Rattle.typing_layout.proofs.Sizes.{size_of_tree}
use Rattle.typing_layout.specs.judged.Layout.{size}
use Rattle.typing_layout.specs.judged.View.{tree_found, tree_along, type_tree}
use Rattle.typing_forms.specs.judged.Resolutions.{inner_at}
use Rattle.typing_forms.specs.judged.Sizes.{type_size}

pub size_found : (types : List PlainType) (handle : ℕ) (i : PlainInner) → inner_at types handle ≡ Some i → type_size i ≡ size (type_tree types handle)
unfolding tree_along type_tree
size_found types handle i at = sym (ap (λ found. size (tree_found (tree_along types handle) found)) at ∙ size_of_tree (tree_along types handle) i)

pub size_missing : (types : List PlainType) (handle : ℕ) → inner_at types handle ≡ None → 0 ≡ size (type_tree types handle)
unfolding tree_along type_tree
size_missing types handle at = sym (ap (λ found. size (tree_found (tree_along types handle) found)) at)

-- ---- the variables of a module

pub variable_at : (entries : List (GlobalVariable × Span)) (handle : ℕ) (g : GlobalVariable) → Some g ≡ value_at entries handle
    → slice_get (map global_view (values_of entries)) handle ≡ Some (global_view g)
variable_at [] handle g at = sym (ap (option_map global_view) at)
variable_at (e ∷ es) zero g at = sym (ap (option_map global_view) at)
variable_at (e ∷ es) (suc h) g at = variable_at es h g at

pub many_variables : (entries : List (GlobalVariable × Span)) → length (map global_view (values_of entries)) ≡ length entries
many_variables [] = refl
many_variables (e ∷ es) = ap suc (many_variables es)

one_there : {A : Type 0} (a b : A) (o : Option A) → o ≡ Some a → o ≡ Some b → a ≡ b
one_there a b o x y = let h : Some a ≡ Some b = sym x ∙ y in cc

-- one more variable
pub greatest_more : (m : PlainModule) (place bytes next : ℕ) (g : PlainGlobal) → slice_get m.globals place ≡ Some g → AreGreatest m place bytes
    → bytes ≤ next → (g.space ≡ Immediate → size (type_tree m.types g.ty) ≤ next)
    → (next ≡ bytes) ⊎ ((g.space ≡ Immediate) × (size (type_tree m.types g.ty) ≡ next)) → AreGreatest m (place + 1) next
greatest_more m place bytes next g at before above own is = record {
  least = λ handle other lt takes. elim (cases_lt handle place) [
    | inl less ↦ let le = before.least handle other less takes in omega (arith, le, above)
    | inr ge ↦
        let here : handle ≡ place = omega (arith, lt, ge) in
        let same : takes.g ≡ g = one_there takes.g g (slice_get m.globals place) (subst (λ h. slice_get m.globals h ≡ Some takes.g) here takes.at) at in
        let le : size (type_tree m.types takes.g.ty) ≤ next = subst (λ x. x.space ≡ Immediate → size (type_tree m.types x.ty) ≤ next) (sym same) own takes.immediate in
        let e = takes.is in omega (arith, le, e)
  ];
  is = elim is [
    | inl stays ↦ subst (λ n. (n ≡ 0) ⊎ ((handle : ℕ) × TakesBytes m handle n)) (sym stays) before.is
    | inr grows ↦ inr (place, record { g = g; at = at; immediate = grows.0; is = grows.1 })
  ];
}

pub greatest_none : (m : PlainModule) → AreGreatest m 0 0
greatest_none m = record { least = λ handle other lt takes. absurd (omega (arith, lt)); is = inl refl }
