use Rattle.std.proofs.Common.{refl, rules}
use Rattle.editor_text.proofs.Positions.{next_position, more_lines, more_columns}
use Rattle.editor_text.proofs.position.position_of.Goals as goal

pub loop-place-preserved : goal.loop-place-preserved
loop-place-preserved c = record {
  is = next_position c.args.encoding c.args.text.now c.loop-place.place _ _ _ (search rules) c.loop-place.invariant.is refl c.after-position.ensures;
  line = more_lines _ _ _ _ _ c.after-position.ensures c.loop-place.invariant.line;
  column = more_columns _ _ _ _ _ c.after-position.ensures c.loop-place.invariant.column;
}
