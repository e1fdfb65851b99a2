use Rattle.typing_forms.specs.judged.Resolutions.{types_view}
use Rattle.module_constants.proofs.Places.{member_fits}
use Rattle.module_constants.proofs.compose.fits_member_at.Goals as goal

pub returns : goal.returns
returns c =
    member_fits (types_view c.args.types.now) c.args.members.now c.args.place c.index-members-place.result c.args.form c.form_of_type.result c.form_equality.result c.requires c.form_of_type.ensures c.form_equality.ensures
