use Rattle.std.proofs.Common.{◌<◌, inl, inr, length, get_or, true≢false, sym, subst, arith}
use Rattle.std.proofs.lemmas.Option.{slice_get-get_or}
use Rattle.spec_interface.specs.judged.Varyings.{ShowsAt, built_in_of, canonical}
use Rattle.function_varyings.proofs.Places.{below_or_same, shows_here}
use Rattle.function_varyings.proofs.shown.shows_before.Goals as goal

pub loop-earlier-preserved : goal.loop-earlier-preserved
loop-earlier-preserved c = λ k lt shows.
    let vs = c.args.varyings.now in
    let v = c.index-varyings-earlier.result in
    let within : c.loop-earlier.earlier < length vs = omega (arith, c.loop-earlier-test.true, c.requires) in
    elim (below_or_same k c.loop-earlier.earlier lt) [
      | inl less ↦ c.loop-earlier.invariant k less shows
      | inr same ↦ true≢false (sym (c.if-shows.ensures.1
          (shows_here built_in_of vs c.loop-earlier.earlier (get_or vs c.loop-earlier.earlier v) (canonical c.args.built_in) (slice_get-get_or vs c.loop-earlier.earlier v within)
          (subst (λ n. ShowsAt built_in_of vs n (canonical c.args.built_in)) same shows))))
    ]

pub returns : goal.returns
returns c = (
  λ t. absurd (true≢false (sym t)),
  λ before. absurd (c.loop-earlier.invariant before.0 (omega (arith, before.1, c.loop-earlier-test.false)) before.2),
)
