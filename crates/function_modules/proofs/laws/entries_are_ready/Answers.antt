use Rattle.function_modules.proofs.EntrySteps.{entry_conditions, entry_known, output_there, payload_there}
use Rattle.function_modules.proofs.laws.entries_are_ready.Goals as goal

pub returns : goal.returns
returns c = λ m summaries handles many known index e at. (
    let conditions = entry_conditions m handles index e at in
    record {
      in_range = conditions.in_range;
      operands = conditions.operands;
      payload = payload_there m handles index e at;
      output = output_there m handles index e at;
      known = entry_known m handles index e at summaries many known;
    }
    )
