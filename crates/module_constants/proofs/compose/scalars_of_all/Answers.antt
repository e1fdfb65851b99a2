use Rattle.std.proofs.Common.{◌≤◌, length, refl, sym, arith}
use Rattle.module_constants.proofs.Places.{fit_none, fit_more, fit_all, given_more, given_all}
use Rattle.module_constants.specs.Composed.{IsScalars, forms_of}
use Rattle.module_constants.proofs.compose.scalars_of_all.Goals as goal

pub loop-place-init : goal.loop-place-init
loop-place-init c = (fit_none (IsScalars c.args.scalar) (forms_of c.args.components.now) 0 refl, refl)

pub returns-in-None : goal.returns-in-None
returns-in-None c = record { place = c.loop-place.place; f = c.form_at.result; stands = sym c.form_at.ensures; unfit = c.in-None.ensures; told = c.misfit.ensures }

pub loop-place-preserved : goal.loop-place-preserved
loop-place-preserved c = (
  fit_more (IsScalars c.args.scalar) (forms_of c.args.components.now) c.loop-place.place c.form_at.result c.loop-place.invariant.0 c.form_at.ensures c.in-Some.ensures.0,
  given_more (forms_of c.args.components.now) c.loop-place.place c.loop-place.given c.in-Some.more _ c.form_at.result c.loop-place.invariant.1 c.form_at.ensures c.in-Some.ensures.1 c.saturating_add-given.ensures,
)

pub returns : goal.returns
returns c =
    let many = c.count_of-place-end.ensures in
    let past : length (forms_of c.args.components.now) ≤ c.loop-place.place = omega (arith, many, c.loop-place-test.false) in (
      fit_all (IsScalars c.args.scalar) (forms_of c.args.components.now) c.loop-place.place c.loop-place.invariant.0 past,
      given_all (forms_of c.args.components.now) c.loop-place.place c.loop-place.given c.loop-place.invariant.1 past,
    )
