use Rattle.std.proofs.Common.{◌≡◌, length, ◌++◌, option_map, map}
use Rattle.std.specs.Vec.Iter.{into_iter_items, into_iter_len}
use Rattle.serde_json.specs.View.{items_view}
use Rattle.document_forms.specs.found.Decide.{each}
use Rattle.document_forms.proofs.lists.take_items.Given as goal

-- the items decoded so far, followed by those of the rest, are the items of the whole
abbrev pub invariant-loop-item : goal.invariant-loop-item
invariant-loop-item g l =
    (option_map (λ xs. map g.F.Form.view (g.C.Grow.items l.found) ++ xs) (each g.F.Form.form.find (items_view (into_iter_items l.item-iterator))) ≡ each g.F.Form.form.find (items_view l.fn.items.items))
    × (into_iter_len l.item-iterator ≡ length (into_iter_items l.item-iterator))
