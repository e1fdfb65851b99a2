-- What was added with the rest is what all add.
use Rattle.std.proofs.Common.{◌≡◌, ◌++◌, drop, map}
use Rattle.ir_types.specs.judged.Plain.{member_view}
use Rattle.spec_interface.specs.judged.Varyings.{bound_members, varying}
use Rattle.function_varying_checks.proofs.spread.add_members.Given as goal

abbrev pub invariant-loop-place : goal.invariant-loop-place
invariant-loop-place l =
    l.varyings.items ++ map (varying l.index) (bound_members l.place (map member_view (drop l.place l.members)))
    ≡ l.fn.varyings.items ++ map (varying l.index) (bound_members 0 (map member_view l.members))
