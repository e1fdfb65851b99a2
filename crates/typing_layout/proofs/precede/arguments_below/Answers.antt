use Rattle.std.proofs.Common.{option_to_list}
use Rattle.typing_layout.proofs.Precedence.{last_below}
use Rattle.typing_layout.proofs.precede.arguments_below.Goals as goal

pub returns-then-is_below : goal.returns-then-is_below
returns-then-is_below c =
    last_below c.args.place c.args.arg (option_to_list c.args.arg1) (option_to_list c.args.arg2) (option_to_list c.args.arg3) c.is_below-then-is_below.result (c.are_below.ensures.0 c.if-not-are_below.false)
    (c.is_below.ensures.0 c.if-not-is_below.false) (c.is_below-2.ensures.0 c.if-is_below.true) c.is_below-then-is_below.ensures
