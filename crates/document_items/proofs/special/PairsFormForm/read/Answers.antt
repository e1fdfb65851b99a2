use Rattle.std.proofs.Common.{◌≡◌, ◌∙◌, ◌++◌, [], ◌∷◌, false, is_some, sym, ap}
use Rattle.std.specs.Map.{lookup}
use Rattle.ir_kinds.specs.contracts.predeclared.PredeclaredTypePartialEq.TheImpl as same
use Rattle.document_items.proofs.Pairs.{pair_found, goes_last, goes_on}
use Rattle.document_items.proofs.special.PairsFormForm.read.Goals as goal

pub loop-item-preserved : goal.loop-item-preserved
loop-item-preserved c =
    let fresh : is_some (lookup (same.ghosts.eq c.in_ok-next.next.0) c.loop-item.found.entries) ≡ false = sym (ap is_some c.in_ok-insert.ensures.old) ∙ sym c.is_some.ensures ∙ c.if-is_some.false in
    let last : c.insert.new.self.entries ≡ c.loop-item.found.entries ++ c.in_ok-next.next ∷ [] = c.in_ok-insert.ensures.entries ∙ goes_last c.loop-item.found.entries c.in_ok-next.next.0 c.in_ok-next.next.1 fresh in
    goes_on c.loop-item.found.entries c.insert.new.self.entries c.in_ok-next.next c.deref-item-items.result.now c.loop-item.item-index c.item-item.result _ c.loop-item-test.true c.item-item.is (pair_found _ c.in_ok-next.next c.in_ok-next.ensures) fresh last c.loop-item.invariant
