use Rattle.std.proofs.Common.{◌&&◌, sym, ap, ◌∙◌}
use Rattle.std.specs.Cmp.Lexicographic.{pointwise}
use Rattle.ir_arena.specs.found.Equality.{same_span}
use Rattle.ir_arena.proofs.Zipped.{both_same}
use Rattle.ir_sets.proofs.unique_arena.UniqueArenaPartialEq.eq.Goals as goal

pub returns-then-eq : goal.returns-then-eq
returns-then-eq g c =
    let eq = g.T.PartialEq.eq in
    c.eq-then-eq.ensures ∙ (ap (λ b. b && pointwise same_span c.self.inside.spans.items c.other.inside.spans.items) (sym c.if-eq.true ∙ (c.eq.ensures ∙ (λ i. pointwise eq (c.as_slice.ensures.keys i) (c.as_slice-2.ensures.keys i)))) ∙ both_same eq _ _ _ _ _ _ c.self.view_is c.other.view_is c.self.invariant.0 c.other.invariant.0)

pub returns-else-eq : goal.returns-else-eq
returns-else-eq g c =
    let eq = g.T.PartialEq.eq in
    c.if-eq.false ∙ (ap (λ b. b && pointwise same_span c.self.inside.spans.items c.other.inside.spans.items) (sym c.if-eq.false ∙ (c.eq.ensures ∙ (λ i. pointwise eq (c.as_slice.ensures.keys i) (c.as_slice-2.ensures.keys i)))) ∙ both_same eq _ _ _ _ _ _ c.self.view_is c.other.view_is c.self.invariant.0 c.other.invariant.0)
