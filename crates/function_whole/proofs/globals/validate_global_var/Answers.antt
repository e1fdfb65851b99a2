use Rattle.ir_items.specs.found.GlobalView.{global_view}
use Rattle.ir_items.specs.found.View.{module_view}
use Rattle.typing_handles.proofs.Ordered.{conditions}
use Rattle.function_whole.proofs.GlobalLemmas.{is_placed}
use Rattle.function_whole.proofs.globals.validate_global_var.Goals as goal

pub validate_variable-requires-clause-back : goal.validate_variable-requires-clause-back
validate_variable-requires-clause-back g c = (conditions (module_view c.args.«module».now) c.requires.handles).types

pub validate_variable-requires-clause-placed : goal.validate_variable-requires-clause-placed
validate_variable-requires-clause-placed g c =
    is_placed (module_view c.args.«module».now) c.requires.handles c.requires.part.0 (global_view c.args.variable.now) c.requires.part.1
