use Rattle.shader_check_c.proofs.Listed.{listing}
use Rattle.shader_check_c.proofs.answer.listed_on.Goals as goal

pub returns-in-Ok-listing : goal.returns-in-Ok-listing
returns-in-Ok-listing c = listing c.args.document.now c.in-Ok.explanation _ _ c.finding-finding.ensures c.in-Ok.ensures.finding c.in-Ok.ensures.explains c.in-Ok-listing.ensures
