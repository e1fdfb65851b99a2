use Rattle.std.proofs.Common.{true≢false, refl, sym, ◌∙◌, arith}
use Rattle.module_constants.proofs.Places.{fit_none, fit_more, fit_all}
use Rattle.module_constants.specs.Composed.{IsForm, forms_of}
use Rattle.module_constants.proofs.compose.check_each.Goals as goal

pub loop-place-init : goal.loop-place-init
loop-place-init c = fit_none (IsForm c.args.wanted.now) (forms_of c.args.components.now) 0 refl

pub returns-then-not-form_equality : goal.returns-then-not-form_equality
returns-then-not-form_equality c = record {
  place = c.loop-place.place;
  f = c.form_at.result;
  stands = sym c.form_at.ensures;
  unfit = λ h. true≢false (sym (c.form_equality.ensures.1 h) ∙ c.if-not-form_equality.true);
  told = c.misfit.ensures;
}

pub loop-place-preserved : goal.loop-place-preserved
loop-place-preserved c = fit_more (IsForm c.args.wanted.now) (forms_of c.args.components.now) c.loop-place.place c.form_at.result c.loop-place.invariant c.form_at.ensures (c.form_equality.ensures.0 c.if-not-form_equality.false)

pub returns : goal.returns
returns c =
    let many = c.count_of-place-end.ensures in
    fit_all (IsForm c.args.wanted.now) (forms_of c.args.components.now) c.loop-place.place c.loop-place.invariant (omega (arith, many, c.loop-place-test.false))
