-- The variables of a module, and the sizes of their types.
use Rattle.std.proofs.Common.{◌≡◌, ◌∙◌, ℕ, suc, List, [], ◌∷◌, Some, None, length, map, refl, sym, ap}
use Rattle.ir_arena.specs.declared.span.Span.{Span}
use Rattle.ir_items.specs.found.GlobalView.{values_of, global_view}
use Rattle.ir_items.specs.declared.globals.GlobalVariable.{GlobalVariable}
use Rattle.ir_types.specs.judged.Plain.{PlainInner, PlainType}
use Rattle.typing_forms.specs.judged.Resolutions.{inner_at}
use Rattle.typing_forms.specs.judged.Sizes.{type_size}
use Rattle.typing_layout.proofs.Sizes.{size_of_tree}
use Rattle.typing_layout.specs.judged.Layout.{size}
use Rattle.typing_layout.specs.judged.View.{tree_found, tree_along, type_tree}

pub size_found : (types : List PlainType) (handle : ℕ) (i : PlainInner) → inner_at types handle ≡ Some i → type_size i ≡ size (type_tree types handle)
unfolding tree_along type_tree
size_found types handle i at = sym (ap (λ found. size (tree_found (tree_along types handle) found)) at ∙ size_of_tree (tree_along types handle) i)

pub size_missing : (types : List PlainType) (handle : ℕ) → inner_at types handle ≡ None → 0 ≡ size (type_tree types handle)
unfolding tree_along type_tree
size_missing types handle at = sym (ap (λ found. size (tree_found (tree_along types handle) found)) at)

pub many_variables : (entries : List (GlobalVariable × Span)) → length (map global_view (values_of entries)) ≡ length entries
many_variables [] = refl
many_variables (e ∷ es) = ap suc (many_variables es)
