use Rattle.std.proofs.Common.{option_map, ap}
use Rattle.spec_interface.proofs.Places.{found}
use Rattle.ir_items.specs.judged.GlobalPlain.{PlainGlobal}
use Rattle.ir_items.specs.found.GlobalView.{global_view}
use Rattle.spec_interface.proofs.lookups.space_at.Goals as goal

pub returns : goal.returns
returns c = ap (option_map (λ (v : PlainGlobal). v.space)) (found global_view c.args.«module».now.global_variables c.args.global c.index.result.now c.index.ensures)
