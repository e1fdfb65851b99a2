-- The variables so far are valid.
use Rattle.std.proofs.Common.{ℕ, ◌<◌}
use Rattle.module_constants.specs.Known.{module_in}
use Rattle.spec_interface.specs.judged.Globals.{GlobalOK}
use Rattle.module_steps.proofs.globals.check_all.Given as goal

abbrev pub invariant-loop-place : goal.invariant-loop-place
invariant-loop-place l = (handle : ℕ) → handle < l.place → GlobalOK l.flags l.context.capabilities (module_in l.context) handle
