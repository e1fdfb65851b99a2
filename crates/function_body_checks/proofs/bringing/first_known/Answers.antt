use Rattle.std.proofs.Common.{◌≡◌, inl, inr, subst, arith}
use Rattle.std.proofs.lemmas.Bool.{cases_lt}
use Rattle.ir_items.specs.found.View.{function_view}
use Rattle.function_body_checks.proofs.Firsts.{none_of_range}
use Rattle.function_body_checks.proofs.Ranges.{between_contains}
use Rattle.function_body_checks.proofs.Tables.{reported_known, reported_unknown}
use Rattle.function_body_checks.specs.Carried.{Known}
use Rattle.function_body_checks.proofs.bringing.first_known.Goals as goal

pub loop-place-init : goal.loop-place-init
loop-place-init c = λ e reached low known. absurd (omega (arith, reached, low, c.index_range-bounds.ensures.start))

pub returns-then-is_known-clause-some : goal.returns-then-is_known-clause-some
returns-then-is_known-clause-some c =
    let here = c.loop-place-test.true in
    let from = c.loop-place.auto.place in (
      between_contains c.args.range c.at-handle.result (omega (arith, from, c.at-handle.ensures, c.index_range-bounds.ensures.start)) (omega (arith, here, c.at-handle.ensures, c.index_range-bounds.ensures.end)),
      reported_known (function_view c.args.function.now) c.args.scope.now c.at-handle.result c.is_known.result c.is_known.ensures c.if-is_known.true,
    )

pub returns-clause-none : goal.returns-clause-none
returns-clause-none c =
    none_of_range (Known (function_view c.args.function.now) c.args.scope.now) c.args.range
    (λ e reached low. c.loop-place.invariant e reached (omega (arith, low, c.loop-place-test.false, c.index_range-bounds.ensures.end)))

pub loop-place-preserved : goal.loop-place-preserved
loop-place-preserved c =
    λ e reached low known.
    elim (cases_lt e c.loop-place.place) [
      | inl before ↦ c.loop-place.invariant e reached before known
      | inr past ↦
          let same : e ≡ c.at-handle.result = omega (arith, low, past, c.at-handle.ensures) in
          reported_unknown (function_view c.args.function.now) c.args.scope.now c.at-handle.result c.is_known.result c.is_known.ensures c.if-is_known.false
          (subst (Known (function_view c.args.function.now) c.args.scope.now) same known)
    ]
