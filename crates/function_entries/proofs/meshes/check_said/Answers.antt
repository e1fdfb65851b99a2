use Rattle.ir_items.specs.found.View.{module_view}
use Rattle.function_entries.proofs.MeshLaws.{said_refused}
use Rattle.function_entries.proofs.meshes.check_said.Goals as goal

pub returns-in-Err-clause-fine : goal.returns-in-Err-clause-fine
returns-in-Err-clause-fine c = said_refused (module_view c.args.«module».now) c.args.mesh.now c.in-Err.refusal c.in-Err.ensures.fine
