use Rattle.std.proofs.Common.{arith}
use Rattle.typing_forms.specs.judged.Resolutions.{types_view}
use Rattle.module_constants.proofs.Places.{member_past}
use Rattle.module_constants.proofs.compose.fits_member.Goals as goal

pub returns : goal.returns
returns c = member_past (types_view c.args.types.now) c.args.members.now c.args.place c.args.form (omega arith)
