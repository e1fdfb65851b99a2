use Rattle.std.proofs.Common.{sym, subst, map}
use Rattle.std.specs.Option.{MatchOption}
use Rattle.ir_types.specs.judged.ExpressionPlain.{expression_view}
use Rattle.ir_items.specs.found.GlobalView.{values_of}
use Rattle.typing_references.specs.Faults.{IsForwardOperand}
use Rattle.typing_references.proofs.FaultLaws.{operands_told}
use Rattle.spec_expressions.specs.judged.FunctionHandles.{OperandsPrecede}
use Rattle.typing_references.proofs.forward.forward_operand.Goals as goal

pub returns : goal.returns
returns c =
    let xs = map expression_view (values_of c.args.expressions.now) in
    subst (λ o. MatchOption o (OperandsPrecede xs) (IsForwardOperand xs)) (sym c.operands_with_handles.ensures) (operands_told c.args.expressions.now)
