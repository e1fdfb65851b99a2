use Rattle.std.proofs.Common.{map}
use Rattle.ir_types.specs.judged.Plain.{member_view}
use Rattle.module_steps.proofs.LayoutLaws.{member_fits}
use Rattle.module_steps.proofs.immediates.immediates_of_member.Goals as goal

pub returns : goal.returns
returns c = member_fits c.args.context.now (map member_view c.args.members.now) c.args.handle c.args.place c.member_at.result c.requires.own c.member_at.ensures _ c.member_at.ensures.told.facts.info.immediates
