use Rattle.std.proofs.Common.{sym, ap}
use Rattle.std.specs.Prelude.{option_and_then}
use Rattle.spec_interface.proofs.Places.{found}
use Rattle.ir_items.specs.judged.GlobalPlain.{PlainGlobal}
use Rattle.ir_items.specs.found.GlobalView.{global_view}
use Rattle.spec_interface.proofs.lookups.binding_at.Goals as goal

pub returns : goal.returns
returns c = sym (ap (option_and_then (λ (v : PlainGlobal). v.binding)) (found global_view c.args.«module».now.global_variables c.args.global c.index.result.now c.index.ensures))
