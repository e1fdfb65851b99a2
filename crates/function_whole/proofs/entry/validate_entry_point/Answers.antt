use Rattle.ir_items.specs.found.View.{module_view}
use Rattle.function_whole.proofs.entry.validate_entry_point.Goals as goal

pub validate_entry_point_with-requires-clause-interfaces : goal.validate_entry_point_with-requires-clause-interfaces
validate_entry_point_with-requires-clause-interfaces g c = c.new-known.ensures c.args.settings.flags c.args.settings.capabilities (module_view c.args.«module».now).types
