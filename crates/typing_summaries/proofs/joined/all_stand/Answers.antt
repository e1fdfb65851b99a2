use Rattle.std.proofs.Common.{arith, below_more}
use Rattle.std.proofs.lemmas.Option.{slice_get_within}
use Rattle.typing_summaries.proofs.joined.all_stand.Goals as goal

pub loop-number-preserved : goal.loop-number-preserved
loop-number-preserved c = below_more _ _ c.loop-number.invariant (c.stands.ensures c.if-not-stands.false)

pub returns : goal.returns
returns c = λ t n at. let within = slice_get_within c.args.marks.now n _ at in c.loop-number.invariant n (omega arith) at
