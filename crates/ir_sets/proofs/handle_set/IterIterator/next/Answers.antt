use Rattle.std.proofs.Common.{rules}
use Rattle.ir_sets.proofs.Words.{none_to_come, first_to_come}
use Rattle.ir_sets.proofs.handle_set.IterIterator.next.Goals as goal

pub returns-in_err-place-clause-steps : goal.returns-in_err-place-clause-steps
returns-in_err-place-clause-steps g c =
    let none = none_to_come c.self.inside.words.now c.self.inside.next _ c.in_err-place.ensures.none in
    rw (c.from_residual.ensures, ← c.self.view_is) (none, none)

pub returns-clause-steps : goal.returns-clause-steps
returns-clause-steps g c =
    rw (← c.self.view_is, c.at.ensures) (first_to_come c.self.inside.words.now c.self.inside.next _ c.in_ok-place.place c.in_ok-place.ensures.some)

pub returns-clause-goes : goal.returns-clause-goes
returns-clause-goes g c =
    let is = first_to_come c.self.inside.words.now c.self.inside.next _ c.in_ok-place.place c.in_ok-place.ensures.some in
    rw (← c.self.view_is, is) (search rules)
