use Rattle.std.proofs.Common.{map, refl}
use Rattle.ir_types.specs.judged.Plain.{member_view}
use Rattle.module_type_checks.proofs.FlagLaws.{follows_none, follows_some, le_tells}
use Rattle.module_type_checks.proofs.flags.follows.Goals as goal

pub returns-in-None : goal.returns-in-None
returns-in-None c = ((λ e. follows_none c.args.context.now (map member_view c.args.members.now) c.args.place c.in-None.ensures), (λ h. refl))

pub returns-in-Some : goal.returns-in-Some
returns-in-Some c = follows_some c.args.context.now (map member_view c.args.members.now) c.args.place c.end.result c.member_at-member.result c.in-Some.before _ c.member_at-member.ensures c.in-Some.ensures c.end.ensures
    (le_tells c.end.result c.from.result c.member_at-member.result.offset c.from.ensures)
