use Rattle.std.proofs.Common.{◌≡◌, drop, ◌++◌, option_map, map}
use Rattle.serde_json.specs.View.{items_view}
use Rattle.document_forms.specs.found.Decide.{each}
use Rattle.document_forms.proofs.lists.read_all.Given as goal

-- the items decoded so far, followed by those of the rest, are the items of the whole
abbrev pub invariant-loop-item : goal.invariant-loop-item
invariant-loop-item g l =
    option_map (λ xs. map g.F.Form.view (g.C.Grow.items l.found) ++ xs) (each g.F.Form.form.find (items_view (drop l.item-index l.item-items))) ≡ each g.F.Form.form.find (items_view l.item-items)
