use Rattle.std.proofs.Common.{◌+◌, arith}
use Rattle.ir_flags.specs.Sets.{Has}
use Rattle.ir_flags.specs.declared.settings.TheConstants.ValidationFlags.{BINDINGS}
use Rattle.function_varying_checks.specs.View.{context_view}
use Rattle.function_varyings.proofs.Places.{all_fine, of_none, one_more}
use Rattle.function_varyings.specs.Places.{AreNoted, IsFaultAt, IsFine}
use Rattle.function_varyings.proofs.validate.check_varyings.Goals as goal

pub loop-place-preserved : goal.loop-place-preserved
loop-place-preserved c =
    let v = context_view c.args.context.now in
    let vs = c.args.varyings.now in
    let place = c.loop-place.place in
    let told = of_none c.in-Ok-None.field-0 (IsFine v vs place × (Has c.args.context.now.flags.0 BINDINGS.0 → AreNoted c.fault_at.new.noted vs (place + 1))) (IsFaultAt v vs place) c.in-Ok-None.field-0-is c.in-Ok-None.ensures in
    (one_more v vs place c.loop-place.invariant.0 told.0, told.1)

pub returns : goal.returns
returns c = all_fine (context_view c.args.context.now) c.args.varyings.now c.loop-place.place (omega (arith, c.loop-place-test.false)) c.loop-place.invariant.0
