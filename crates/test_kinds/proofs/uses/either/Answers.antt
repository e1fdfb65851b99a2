use Rattle.std.proofs.lemmas.Nat.Bits.{bit_at_or}
use Rattle.ir_flags.proofs.SetLaws.{within-union_left, within-union_right}
use Rattle.test_kinds.proofs.uses.either.Goals as goal

pub returns-clause-bits : goal.returns-clause-bits
returns-clause-bits c = λ k. rw (c.union.ensures tt) (bit_at_or c.args.a.0 c.args.b.0 k)

pub returns-clause-left : goal.returns-clause-left
returns-clause-left c = rw (c.union.ensures tt) (within-union_left c.args.a.0 c.args.b.0)

pub returns-clause-right : goal.returns-clause-right
returns-clause-right c = rw (c.union.ensures tt) (within-union_right c.args.a.0 c.args.b.0)
