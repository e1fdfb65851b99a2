use Rattle.std.proofs.Common.{sym}
use Rattle.function_varying_checks.proofs.locations.check_counted.Goals as goal

pub returns-in-Some : goal.returns-in-Some
returns-in-Some c = record {
  capable = c.in-Ok.ensures c.args.ty;
  vertices = c.in-Ok-check_vertices.ensures c.args.ty;
  counts = sym c.in-Some.ensures;
}
