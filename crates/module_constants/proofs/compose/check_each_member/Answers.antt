use Rattle.std.proofs.Common.{true≢false, map, refl, sym, ◌∙◌, arith}
use Rattle.ir_types.specs.judged.Plain.{member_view}
use Rattle.module_constants.proofs.Places.{fit_none, fit_more, fit_all}
use Rattle.module_constants.specs.Composed.{IsMember, forms_of}
use Rattle.typing_forms.specs.judged.Resolutions.{types_view}
use Rattle.module_constants.proofs.compose.check_each_member.Goals as goal

pub loop-place-init : goal.loop-place-init
loop-place-init c = fit_none (IsMember (types_view c.args.types.now) (map member_view c.args.members.now)) (forms_of c.args.components.now) 0 refl

pub returns-then-not-fits_member : goal.returns-then-not-fits_member
returns-then-not-fits_member c = record {
  place = c.loop-place.place;
  f = c.form_at.result;
  stands = sym c.form_at.ensures;
  unfit = λ h. true≢false (sym (c.fits_member.ensures.1 h) ∙ c.if-not-fits_member.true);
  told = c.misfit.ensures;
}

pub loop-place-preserved : goal.loop-place-preserved
loop-place-preserved c =
    fit_more (IsMember (types_view c.args.types.now) (map member_view c.args.members.now)) (forms_of c.args.components.now) c.loop-place.place c.form_at.result c.loop-place.invariant c.form_at.ensures
    (c.fits_member.ensures.0 c.if-not-fits_member.false)

pub returns : goal.returns
returns c =
    let many = c.count_of-place-end.ensures in
    fit_all (IsMember (types_view c.args.types.now) (map member_view c.args.members.now)) (forms_of c.args.components.now) c.loop-place.place c.loop-place.invariant (omega (arith, many, c.loop-place-test.false))
