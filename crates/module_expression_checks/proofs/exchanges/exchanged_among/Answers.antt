use Rattle.std.proofs.Common.{arith}
use Rattle.module_expression_checks.proofs.Members.{two}
use Rattle.module_expression_checks.proofs.exchanges.exchanged_among.Goals as goal
use Rattle.typing_forms.specs.judged.Resolutions.{types_view}

pub returns : goal.returns
returns c = λ of. two (types_view c.args.types.now) c.args.members.now c.index-members-0.result c.index-members-1.result c.exchanged_of.result of
    (omega (arith, c.if-members-ne2.false)) c.index-members-0.is c.index-members-1.is (c.exchanged_of.ensures of)
