use Rattle.function_entry_checks.proofs.UsedLaws.{immediate_told}
use Rattle.ir_items.specs.found.View.{module_view}
use Rattle.function_entry_checks.proofs.variables.is_immediate_at.Goals as goal

pub returns : goal.returns
returns c = immediate_told (module_view c.args.«module».now) c.args.global c.space_at.result c.space_at.ensures c.is_immediate.result c.is_immediate.ensures
