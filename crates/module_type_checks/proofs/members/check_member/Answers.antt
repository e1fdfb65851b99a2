use Rattle.std.proofs.Common.{arith, rules}
use Rattle.typing_layout.specs.judged.Flags.{HasFlag, Data}
use Rattle.module_type_checks.specs.Known.{tree_in}
use Rattle.module_type_checks.proofs.PlacedLaws.{placed_ok}
use Rattle.module_type_checks.proofs.members.check_member.Goals as goal

pub returns : goal.returns
returns c =
    let stored : HasFlag Data (tree_in c.args.context.now c.member_at-member.result.ty) = search rules in
    placed_ok c.args.context.now c.args.members.now c.args.span c.args.place c.member_at-member.result c.member_at-member.ensures stored (c.in_ok-check_sized.ensures c.args.span) (c.in_ok-check_ordered.ensures c.args.span)
    (omega (arith, c.if-from-end.false, c.from.ensures, c.end.ensures))

pub returns-in_err-check_sized : goal.returns-in_err-check_sized
returns-in_err-check_sized c = let h = c.in_err-check_sized.ensures c.args.span in search rules

pub returns-in_err-check_ordered : goal.returns-in_err-check_ordered
returns-in_err-check_ordered c = let h = c.in_err-check_ordered.ensures c.args.span in search rules
