use Rattle.typing_layout.proofs.Precedence.{math_below}
use Rattle.typing_layout.proofs.precede.origin_precedes.Goals as goal

pub returns-in-Math : goal.returns-in-Math
returns-in-Math c = math_below c.args.place c.args.expression.now c.in-Math.fun c.in-Math.arg c.in-Math.arg1 c.in-Math.arg2 c.in-Math.arg3 c.arguments_below.result c.in-Math.is c.arguments_below.ensures
