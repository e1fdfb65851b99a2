-- Those before are as they should be, and their locations are noted where that is required.
use Rattle.std.proofs.Common.{ℕ, ◌<◌}
use Rattle.ir_flags.specs.Sets.{Has}
use Rattle.ir_flags.specs.declared.settings.TheConstants.ValidationFlags.{BINDINGS}
use Rattle.function_varying_checks.specs.View.{context_view}
use Rattle.function_varyings.specs.Places.{AreNoted, IsFine}
use Rattle.function_varyings.proofs.validate.check_varyings.Given as goal

abbrev pub invariant-loop-place : goal.invariant-loop-place
invariant-loop-place l = ((k : ℕ) → k < l.place → IsFine (context_view l.context) l.varyings k)
    × (Has l.context.flags.0 BINDINGS.0 → AreNoted l.noted l.varyings l.place)
