use Rattle.std.proofs.Common.{length, map, rules}
use Rattle.typing_infos.specs.Infos.{summary_of}
use Rattle.typing_summaries.specs.Tallies.{tallied}
use Rattle.typing_analysis.proofs.SummaryLemmas.{whole_is}
use Rattle.typing_analysis.proofs.summary.tally_of.Goals as goal

pub returns-in-Ok : goal.returns-in-Ok
returns-in-Ok c =
    whole_is c.args.function.now c.args.globals.now (map summary_of c.args.callees.now) (length c.args.«module».now.global_variables) (tallied c.in-Ok.tally) c.requires (search rules)
