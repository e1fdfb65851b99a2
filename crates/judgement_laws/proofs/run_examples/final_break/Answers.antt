use Rattle.spec_runs.specs.judged.FinalSwitches.{break_here, of_last}
use Rattle.judgement_laws.proofs.run_examples.final_break.Goals as goal

pub returns : goal.returns
returns c = of_last 0 break_here
