use Rattle.std.proofs.Common.{◌≡◌, drop}
use Rattle.serde_json.specs.View.{items_view}
use Rattle.document_forms.specs.found.Decide.{joins}
use Rattle.document_forms.proofs.words.SetOfForm.read.Given as goal

-- the rest joined to the set so far is the set of the whole
abbrev pub invariant-loop-item : goal.invariant-loop-item
invariant-loop-item g l =
    joins g.S.Word.table g.S.SetWord.union l.found (items_view (drop l.item-index l.item-items)) ≡ joins g.S.Word.table g.S.SetWord.union g.S.SetWord.none (items_view l.item-items)
