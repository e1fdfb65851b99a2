use Rattle.ir_items.specs.found.View.{function_view}
use Rattle.function_whole.proofs.Bases.{bases_precede}
use Rattle.module_handles.proofs.Origins.{origins}
use Rattle.function_whole.proofs.validate.judge.Goals as goal

pub check_parts-requires-clause-precede : goal.check_parts-requires-clause-precede
check_parts-requires-clause-precede g c = bases_precede (function_view c.args.function.now).expressions c.requires.precede

pub from_arena-requires : goal.from_arena-requires
from_arena-requires g c = origins c.args.function.now.expressions c.requires.precede

pub roots_of-requires : goal.roots_of-requires
roots_of-requires g c = bases_precede (function_view c.args.function.now).expressions c.requires.precede
