use Rattle.ir_arena.specs.found.Arenas.{span_of_entry}
use Rattle.ir_arena.proofs.Zipped.{part_of}
use Rattle.ir_arena.proofs.arena.Arena.get_range_spans.Goals as goal

pub returns : goal.returns
returns g c = part_of span_of_entry c.args.self.now c.self.inside.entries _ _ _ _ _ c.self.view_is c.spans.ensures c.index_range-places.ensures.start c.index_range-places.ensures.end
