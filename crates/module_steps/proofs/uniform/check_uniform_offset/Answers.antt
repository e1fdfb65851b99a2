use Rattle.std.proofs.Common.{map, arith}
use Rattle.ir_types.specs.judged.Plain.{member_view}
use Rattle.module_steps.proofs.LayoutLaws.{uniform_part}
use Rattle.module_steps.proofs.uniform.check_uniform_offset.Goals as goal

pub returns : goal.returns
returns c =
    uniform_part c.args.context.now (map member_view c.args.members.now) c.args.place c.args.alignment c.free_before-expected.result c.args.member c.requires.placed c.requires.aligned (c.is_aligned.ensures.0 c.if-not-is_aligned.false)
    c.free_before-expected.ensures (omega (arith, c.if-from-expected.false, c.from.ensures))
