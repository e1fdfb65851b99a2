use Rattle.function_body_checks.specs.Lists.{listed}
use Rattle.function_body_checks.proofs.Ranges.{cut_more, cut_all}
use Rattle.function_body_checks.proofs.list.ExpressionList.cut.Goals as goal

pub returns : goal.returns
returns c =
    cut_all (listed c.loop-self.self-inside.ranges.items) c.args.self.now c.args.count c.loop-self.self-inside.count c.loop-self.invariant.0.many c.loop-self-test.false c.loop-self.invariant.1

pub loop-self-preserved : goal.loop-self-preserved
loop-self-preserved c =
    let done = c.cut_last-self-inside.ensures in
    (done.listed, cut_more (listed c.loop-self.self-inside.ranges.items) (listed c.cut_last-self-inside.new.ranges.items) c.args.self.now c.args.count c.cut_last-self-inside.result done.cut done.reached c.loop-self.invariant.1)
