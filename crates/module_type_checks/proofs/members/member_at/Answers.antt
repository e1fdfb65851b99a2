use Rattle.std.proofs.Common.{refl}
use Rattle.module_type_checks.proofs.PlacedLaws.{placed_at}
use Rattle.module_type_checks.proofs.members.member_at.Goals as goal

pub returns : goal.returns
returns c = placed_at c.args.context.now c.args.members.now c.args.place c.index-members-place.result _ c.requires.within c.index-members-place.is refl refl c.facts_of.ensures
