use Rattle.function_entries.proofs.Reported.{mesh_refused}
use Rattle.function_entries.specs.Contexts.{entry_in, module_in}
use Rattle.spec_expressions.specs.judged.Summaries.{HasUseBit}
use Rattle.function_entries.proofs.connections.check_connections_with.Goals as goal

pub returns-in-Err-check_mesh-clause-judged : goal.returns-in-Err-check_mesh-clause-judged
returns-in-Err-check_mesh-clause-judged c =
    let x = c.args.context.now in
    mesh_refused x.flags x.capabilities (module_in x) (entry_in x) (HasUseBit c.args.uses.now) c.in-Some.mesh c.in-Some.is c.in-Err-check_mesh.refusal c.in-Err-check_mesh.ensures.fine
