use Rattle.std.proofs.Common.{◌+◌, arith}
use Rattle.typing_infos.proofs.Runs.{none_in, none_on}
use Rattle.typing_infos.proofs.uses.after_empty_runs.Goals as goal

pub loop-from-preserved : goal.loop-from-preserved
loop-from-preserved c =
    let uses = c.args.uses.now in
    let place = c.loop-from.place in (
      omega (arith, c.loop-from.invariant.0),
      none_on uses c.args.from place (place + 64) c.loop-from.invariant.1
          (none_in uses place (place + 64) (omega (arith, c.loop-from-test.true, c.saturating_sub.ensures, c.requires)) (c.has_use.ensures c.if-has_use.false)),
    )
