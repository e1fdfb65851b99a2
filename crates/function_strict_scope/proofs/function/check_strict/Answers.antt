use Rattle.std.proofs.Common.{rules, Err, IfErr, ◌≡◌, refl, subst, sym}
use Rattle.ir_items.specs.found.View.{function_view}
use Rattle.ir_places.proofs.TrailLaws.{placed_then}
use Rattle.ir_places.specs.Paths.{IsPlaced, place_of}
use Rattle.ir_types.specs.declared.refusal.Refusal.TheVariants as refusal
use Rattle.function_strict_scope.proofs.Places.{strict_met, reported_in_body}
use Rattle.function_strict_scope.specs.Faults.{IsStrictFaultAt, IsStrictRefusalAt}
use Rattle.function_strict_scope.specs.Live.{Follows}
use Rattle.function_strict_scope.specs.Walked.{AllMeet, IfFault}
use Rattle.function_strict_scope.proofs.function.check_strict.Goals as goal

pub returns-in-Ok-clause-strict : goal.returns-in-Ok-clause-strict
returns-in-Ok-clause-strict c =
    let f = function_view c.args.function.now in strict_met f (subst (λ xs. AllMeet f xs f.body) c.in_ok-sure.ensures c.in-Ok.ensures.meet)

pub returns-clause-fault : goal.returns-clause-fault
returns-clause-fault c = λ scope.
    let f = function_view c.args.function.now in
    let t = c.check_block.new.trail in
    placed_then t (λ p. IfFault c.in-Err.error (λ e. IsStrictFaultAt f e p)) (IsStrictRefusalAt f c.refused.result) (c.refused.ensures f)
    (reported_in_body f scope t c.in-Err.error _ c.in_ok-sure.ensures c.in-Err.ensures.fault)

pub check_block-requires : goal.check_block-requires
check_block-requires c = subst (Follows (function_view c.args.function.now) c.in_ok-live.live) (sym c.in_ok-sure.ensures) c.in_ok-live.ensures

pub returns-in_err-live-clause-fault : goal.returns-in_err-live-clause-fault
returns-in_err-live-clause-fault c = λ scope.
    let f = function_view c.args.function.now in
    let t = c.args.trail.now in
    let same : c.from_residual.result ≡ Err (refusal.Memory c.in_err-live.field-0.0) = search rules in
    subst (λ x. IfErr x (λ r. IsPlaced t (IsStrictRefusalAt f r))) (sym same) (place_of t, (λ kept. refl), tt)

pub returns-in_err-sure-clause-fault : goal.returns-in_err-sure-clause-fault
returns-in_err-sure-clause-fault c = λ scope.
    let f = function_view c.args.function.now in
    let t = c.args.trail.now in
    let same : c.from_residual-in_err-sure.result ≡ Err (refusal.Memory c.in_err-sure.field-0.0) = search rules in
    subst (λ x. IfErr x (λ r. IsPlaced t (IsStrictRefusalAt f r))) (sym same) (place_of t, (λ kept. refl), tt)
