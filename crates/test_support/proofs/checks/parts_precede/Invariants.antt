use Rattle.std.proofs.Common.{◌<◌}
use Rattle.std.specs.Option.{ForSome}
use Rattle.std.specs.List.{All}
use Rattle.ir_types.specs.judged.ExpressionPlain.{PlainExpression}
use Rattle.ir_items.specs.judged.Bases.{expressions_of}
use Rattle.ir_items.specs.found.Flat.{parts_of}
use Rattle.test_support.proofs.CheckLemmas.{UpTo}
use Rattle.test_support.proofs.checks.parts_precede.Given as goal

abbrev pub invariant-loop-place : goal.invariant-loop-place
invariant-loop-place l = UpTo (λ place (e : PlainExpression). ForSome (parts_of e) (All (λ part. part < place))) (expressions_of l.arena) l.place
