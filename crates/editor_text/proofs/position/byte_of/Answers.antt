use Rattle.std.proofs.Common.{refl, rules, subst, inr}
use Rattle.editor_text.specs.Positions.{IsUpTo}
use Rattle.editor_text.proofs.Positions.{next_position, more_lines, more_columns}
use Rattle.editor_text.proofs.position.byte_of.Goals as goal

pub loop-place-preserved : goal.loop-place-preserved
loop-place-preserved c = record {
  is = next_position c.args.encoding c.args.text.now c.loop-place.place _ _ _ (search rules) c.loop-place.invariant.is refl c.after-next.ensures;
  line = more_lines _ _ _ _ _ c.after-next.ensures c.loop-place.invariant.line;
  column = more_columns _ _ _ _ _ c.after-next.ensures c.loop-place.invariant.column;
  reached = search rules;
}

pub returns-then-not-is_up_to-clause-last : goal.returns-then-not-is_up_to-clause-last
returns-then-not-is_up_to-clause-last c =
    let is = next_position c.args.encoding c.args.text.now c.loop-place.place _ _ _ (search rules) c.loop-place.invariant.is refl c.after-next.ensures in
    let past : ¬ IsUpTo c.after-next.result c.args.position = search rules in
    inr (subst (λ p. ¬ IsUpTo p c.args.position) is past)
