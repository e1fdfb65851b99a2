use Rattle.ir_items.specs.found.View.{module_view}
use Rattle.typing_uniformity.proofs.Nearest.{nothing_known}
use Rattle.typing_analysis.proofs.process.process_function.Goals as goal

pub process_by-requires-clause-known : goal.process_by-requires-clause-known
process_by-requires-clause-known c = nothing_known (module_view c.args.«module».now).filters
