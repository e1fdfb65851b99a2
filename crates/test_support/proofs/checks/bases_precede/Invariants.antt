use Rattle.std.proofs.Common.{◌<◌}
use Rattle.std.specs.Option.{ForSome}
use Rattle.ir_types.specs.judged.ExpressionPlain.{PlainExpression}
use Rattle.ir_items.specs.judged.Bases.{expressions_of, base_of}
use Rattle.test_support.proofs.CheckLemmas.{UpTo}
use Rattle.test_support.proofs.checks.bases_precede.Given as goal

abbrev pub invariant-loop-place : goal.invariant-loop-place
invariant-loop-place l = UpTo (λ place (e : PlainExpression). ForSome (base_of e) (λ base. base < place)) (expressions_of l.arena) l.place
