use Rattle.std.proofs.Common.{rules, ◌≡◌, ◌-◌, ◌≤◌, ◌<◌, length}
use Rattle.ir_places.specs.declared.step.Part.TheVariants.{Inner}
use Rattle.check_paths.proofs.Leads.{made_back}
use Rattle.check_paths.proofs.path.push_steps.Goals as goal

pub loop-left-preserved : goal.loop-left-preserved
loop-left-preserved c = (
  (let e : c.loop-left.left - 1 ≤ length c.args.steps.now = search rules in e),
  made_back c.args.path.now.items c.args.steps.now c.loop-left.left (record { index = 0; part = Inner }) c.loop-left.path.items c.push_step.new.path.items c.loop-left-test.true c.loop-left.invariant.0 c.loop-left.invariant.1 c.in_ok-push_step.ensures,
)
