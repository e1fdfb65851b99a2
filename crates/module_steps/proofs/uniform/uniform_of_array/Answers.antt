use Rattle.typing_layout.proofs.Powers.{sixteen}
use Rattle.module_steps.proofs.LayoutLaws.{uniform_array}
use Rattle.module_steps.proofs.uniform.uniform_of_array.Goals as goal

pub invariant_of-is_aligned : goal.invariant_of-is_aligned
invariant_of-is_aligned c = sixteen

pub invariant_of-result : goal.invariant_of-result
invariant_of-result c = sixteen

pub returns-else-not-is_aligned-2 : goal.returns-else-not-is_aligned-2
returns-else-not-is_aligned-2 c =
    uniform_array c.args.context.now c.args.base.now c.args.stride c.args.handle c.in-Ok.alignment c.at_least_sixteen.result c.requires.own (rw c.in-Ok.is at c.requires.own.facts.info.uniform) (c.is_aligned.ensures.0 c.if-not-is_aligned.false)
    (c.is_aligned-in-Ok.ensures.0 c.if-not-is_aligned-2.false) c.at_least_sixteen.ensures
