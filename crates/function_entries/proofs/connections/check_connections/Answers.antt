use Rattle.function_entries.specs.Contexts.{module_in}
use Rattle.function_entries.proofs.connections.check_connections.Goals as goal

pub check_connections_with-requires-clause-known : goal.check_connections_with-requires-clause-known
check_connections_with-requires-clause-known c = let x = c.args.context.now in c.new-known.ensures x.flags x.capabilities (module_in x).types
