use Rattle.std.proofs.Common.{rules, Err, IfErr, true≢false, ◌≡◌, sym, subst, ◌∙◌}
use Rattle.ir_items.specs.found.View.{function_view}
use Rattle.ir_places.proofs.TrailLaws.{placed, placed_then}
use Rattle.ir_places.specs.Paths.{IsPlaced}
use Rattle.ir_types.specs.declared.refusal.Refusal.TheVariants as refusal
use Rattle.function_body_checks.proofs.FaultLaws.{reported_in_body, scope_fine, each_once, is_asked, all_answers}
use Rattle.function_body_checks.specs.Carried.{IfFault}
use Rattle.function_body_checks.specs.Faults.{IsScopeFaultAt, IsScopeRefusalAt}
use Rattle.function_body_checks.proofs.scope_function.check_scope.Goals as goal

pub returns-in-Ok-clause-scope : goal.returns-in-Ok-clause-scope
returns-in-Ok-clause-scope c =
    scope_fine (function_view c.args.function.now) c.requires_results-asked.result _ _ c.in_ok-carried.ensures.scope c.in_ok-carried.ensures.answered c.in-Ok.ensures.fine

pub returns-in-Ok-clause-once : goal.returns-in-Ok-clause-once
returns-in-Ok-clause-once c =
    each_once (function_view c.args.function.now) c.requires_results-asked.result _ _ c.in_ok-carried.ensures.scope c.in_ok-carried.ensures.answered c.in-Ok.ensures.fine

pub returns-in-Ok-clause-asked : goal.returns-in-Ok-clause-asked
returns-in-Ok-clause-asked c = λ p e by.
    c.requires_results-asked.ensures.0 (is_asked (function_view c.args.function.now) c.requires_results-asked.result _ _ c.in_ok-carried.ensures.scope c.in_ok-carried.ensures.answered c.in-Ok.ensures.fine p e by)

pub returns-in-Ok-clause-answered : goal.returns-in-Ok-clause-answered
returns-in-Ok-clause-answered c =
    all_answers (function_view c.args.function.now) c.requires_results-asked.result _ _ c.in_ok-carried.ensures.scope c.in_ok-carried.ensures.answered c.in-Ok.ensures.fine _ c.in-Ok.ensures.answered

pub returns-clause-fault : goal.returns-clause-fault
returns-clause-fault c =
    let f = function_view c.args.function.now in
    let t = c.check_block.new.trail in
    placed_then t (λ p. IfFault c.in-Err.error (λ e. IsScopeFaultAt c.args.flags f e p)) (IsScopeRefusalAt c.args.flags f c.refused.result) (c.refused.ensures c.args.flags f)
    (reported_in_body c.args.flags f c.requires_results-asked.result (λ is has. true≢false (sym (c.requires_results-asked.ensures.1 has) ∙ is)) t c.in-Err.error _ _
    c.in_ok-carried.ensures.scope c.in_ok-carried.ensures.answered c.in-Err.ensures.fault)

pub returns-in_err-always-clause-fault : goal.returns-in_err-always-clause-fault
returns-in_err-always-clause-fault c =
    let f = function_view c.args.function.now in
    let same : c.from_residual.result ≡ Err (refusal.Memory c.in_err-always.field-0.0) = search rules in
    subst (λ x. IfErr x (λ r. IsPlaced c.args.trail.now (IsScopeRefusalAt c.args.flags f r))) (sym same) (placed c.args.trail.now (λ p. Unit {0}) tt)

pub returns-in_err-carried-clause-fault : goal.returns-in_err-carried-clause-fault
returns-in_err-carried-clause-fault c =
    let f = function_view c.args.function.now in
    let same : c.from_residual-in_err-carried.result ≡ Err (refusal.Memory c.in_err-carried.field-0.0) = search rules in
    subst (λ x. IfErr x (λ r. IsPlaced c.args.trail.now (IsScopeRefusalAt c.args.flags f r))) (sym same) (placed c.args.trail.now (λ p. Unit {0}) tt)
