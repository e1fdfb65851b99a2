use Rattle.std.proofs.Common.{map, subst}
use Rattle.ir_items.specs.found.View.{function_view, module_view}
use Rattle.typing_infos.specs.Infos.{summary_of}
use Rattle.typing_summaries.specs.Tallied.{IsTally}
use Rattle.typing_summaries.specs.Tallies.{tallied}
use Rattle.typing_analysis.proofs.SummaryLemmas.{global_count}
use Rattle.typing_analysis.proofs.summary.summarize.Goals as goal

pub returns-in-None-clause-ok : goal.returns-in-None-clause-ok
returns-in-None-clause-ok c = record {
  types = c.in-Ok.ensures.ok;
  uniformities = c.in_ok-facts.ensures.uniformities;
  starts = c.in_ok-facts.ensures.starts;
  tally =
      subst (λ n. IsTally n (function_view c.args.function.now) (map summary_of c.args.callees.now) (tallied c.in_ok-tally.tally)) (global_count c.args.«module».now)
      c.in_ok-tally.ensures;
  clear = c.in_ok-tally.ensures.clear c.in-None.is;
}

pub returns-in-Err-clause-fault : goal.returns-in-Err-clause-fault
returns-in-Err-clause-fault c =
    c.as_summary.ensures (module_view c.args.«module».now) (function_view c.args.function.now) (map summary_of c.args.callees.now) c.in-Err.ensures.fault

pub returns-in-Some-clause-fault : goal.returns-in-Some-clause-fault
returns-in-Some-clause-fault c = c.in_ok-tally.ensures.wrong c.in-Some.expression c.in-Some.is
