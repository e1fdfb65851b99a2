use Rattle.std.proofs.Common.{◌∙◌}
use Rattle.typing_overloads.proofs.Arity.{fewest_given}
use Rattle.typing_overloads.proofs.list.ListOverloadSet.min_arguments.Goals as goal

pub returns : goal.returns
returns c =
    fewest_given c.args.self.now c.as_slice.result.now c.most_preferred.result c.len.result c.min_arity.result
    (c.as_slice.ensures.value ∙ c.self.view_is) c.most_preferred.ensures c.len.ensures c.min_arity.ensures
