use Rattle.check_faults.proofs.Rows.{entry_inside}
use Rattle.check_faults.proofs.parts.Part.inside.Goals as goal

pub returns-in-Some-clause-inside : goal.returns-in-Some-clause-inside
returns-in-Some-clause-inside c =
    let l = c.in-Some.ensures.lookup in
    rw (c.in-Row.is) (entry_inside c.in-Row.row c.names.result.now c.args.index c.in-Some.entry.now c.names.ensures l.3.0 l.1)
