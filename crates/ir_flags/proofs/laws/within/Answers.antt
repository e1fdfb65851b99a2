use Rattle.ir_flags.proofs.SetLaws.{within-over, within-union_left, union-within, intersection-within_left, intersection-within_right, within-intersection}
use Rattle.ir_flags.proofs.laws.within.Goals as goal

pub returns-clause-transitive : goal.returns-clause-transitive
returns-clause-transitive c = within-over c.args.a c.args.b c.args.c

pub returns-clause-union_left : goal.returns-clause-union_left
returns-clause-union_left c = within-union_left c.args.a c.args.b

pub returns-clause-union_least : goal.returns-clause-union_least
returns-clause-union_least c = union-within c.args.a c.args.b c.args.c

pub returns-clause-intersection_left : goal.returns-clause-intersection_left
returns-clause-intersection_left c = intersection-within_left c.args.a c.args.b

pub returns-clause-intersection_right : goal.returns-clause-intersection_right
returns-clause-intersection_right c = intersection-within_right c.args.a c.args.b

pub returns-clause-intersection_greatest : goal.returns-clause-intersection_greatest
returns-clause-intersection_greatest c = within-intersection c.args.a c.args.b c.args.c
