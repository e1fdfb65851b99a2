use Rattle.std.proofs.Common.{◌≡◌, drop, []}
use Rattle.serde_json.specs.View.{items_view}
use Rattle.document_items.specs.found.Special.{pairs_with}
use Rattle.document_items.proofs.special.PairsFormForm.read.Given as goal

-- the rest appended to the pairs so far gives the result of the whole
abbrev pub invariant-loop-item : goal.invariant-loop-item
invariant-loop-item l = pairs_with l.found.entries (items_view (drop l.item-index l.item-items)) ≡ pairs_with [] (items_view l.item-items)
