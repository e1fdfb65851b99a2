-- None of those before shows it.
use Rattle.std.proofs.Common.{ℕ, ◌<◌}
use Rattle.spec_interface.specs.judged.Varyings.{ShowsAt, built_in_of, canonical}
use Rattle.function_varyings.proofs.shown.shows_before.Given as goal

abbrev pub invariant-loop-earlier : goal.invariant-loop-earlier
invariant-loop-earlier l = (k : ℕ) → k < l.earlier → ¬ ShowsAt built_in_of l.varyings k (canonical l.built_in)
