use Rattle.std.proofs.Common.{sym, subst}
use Rattle.std.specs.Option.{MatchOption}
use Rattle.ir_items.specs.found.View.{function_view}
use Rattle.typing_references.specs.Faults.{IsForwardCallee}
use Rattle.typing_references.proofs.FaultLaws.{callees_told}
use Rattle.spec_expressions.specs.judged.FunctionHandles.{CalleesPrecede}
use Rattle.typing_references.proofs.forward.forward_callee.Goals as goal

pub returns : goal.returns
returns c =
    let f = function_view c.args.function.now in
    subst (λ o. MatchOption o (CalleesPrecede c.args.caller f) (IsForwardCallee c.args.caller f)) (sym c.callees_forward.ensures) (callees_told c.args.caller f)
