use Rattle.ir_types.specs.judged.ExpressionPlain.{expression_view}
use Rattle.typing_resolve.proofs.Decided.{by_reads, decided}
use Rattle.typing_resolve.proofs.context.ResolveContext.resolve.Goals as goal
use Rattle.typing_resolve.specs.View.{context_view}

pub returns : goal.returns
returns g c = record {
  by_operands = λ forms same.
      by_reads (context_view c.args.self.now) (expression_view c.args.expression.now) forms _ _ _ _ _ c.read.result c.read-2.result c.read-3.result c.read-4.result c.answered.result
      c.operands_of-operands.ensures.first c.operands_of-operands.ensures.second c.operands_of-operands.ensures.third c.operands_of-operands.ensures.fourth
      (c.read.ensures (context_view c.args.self.now).types forms) (c.read-2.ensures (context_view c.args.self.now).types forms)
      (c.read-3.ensures (context_view c.args.self.now).types forms) (c.read-4.ensures (context_view c.args.self.now).types forms) c.answered.ensures same;
  decides = λ expressions place forms stands typed same.
      decided (context_view c.args.self.now) expressions place (expression_view c.args.expression.now) forms c.answered.result stands typed
      (by_reads (context_view c.args.self.now) (expression_view c.args.expression.now) forms _ _ _ _ _ c.read.result c.read-2.result c.read-3.result c.read-4.result c.answered.result
      c.operands_of-operands.ensures.first c.operands_of-operands.ensures.second c.operands_of-operands.ensures.third c.operands_of-operands.ensures.fourth
      (c.read.ensures (context_view c.args.self.now).types forms) (c.read-2.ensures (context_view c.args.self.now).types forms)
      (c.read-3.ensures (context_view c.args.self.now).types forms) (c.read-4.ensures (context_view c.args.self.now).types forms) c.answered.ensures same);
}
