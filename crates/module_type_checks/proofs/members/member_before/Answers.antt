use Rattle.std.proofs.Common.{map}
use Rattle.ir_types.specs.judged.Plain.{member_view}
use Rattle.module_type_checks.proofs.PlacedLaws.{placed_before}
use Rattle.module_type_checks.proofs.members.member_before.Goals as goal

pub returns : goal.returns
returns c = placed_before c.args.context.now (map member_view c.args.members.now) c.args.place c.member_at.result c.if-place-eq0.false c.member_at.ensures
