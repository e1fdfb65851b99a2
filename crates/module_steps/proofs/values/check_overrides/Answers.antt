use Rattle.module_constants.specs.Known.{module_in}
use Rattle.module_steps.proofs.ValueLemmas.{overrides_accepted}
use Rattle.judgement.proofs.Reached.{all_passed}
use Rattle.module_steps.proofs.values.check_overrides.Goals as goal

pub returns-in-Ok-clause-accepted : goal.returns-in-Ok-clause-accepted
returns-in-Ok-clause-accepted c =
    all_passed c.args.settings c.args.overrides_resolved (module_in c.args.context.now) c.requires.reached (overrides_accepted c.args.settings c.args.overrides_resolved c.args.context.now (module_in c.args.context.now) c.requires.same c.in-Ok.ensures.accepted)
