use Rattle.std.proofs.Common.{◌&&◌, sym, ap, ◌∙◌}
use Rattle.std.specs.Cmp.Lexicographic.{pointwise}
use Rattle.ir_arena.specs.found.Equality.{same_span}
use Rattle.ir_arena.proofs.Zipped.{both_same}
use Rattle.ir_arena.proofs.spanned.SpannedPartialEq.eq.Goals as goal

pub returns-then-eq : goal.returns-then-eq
returns-then-eq g c =
    c.eq-then-eq.ensures ∙ (ap (λ b. b && pointwise same_span c.self.inside.spans.items c.other.inside.spans.items) (sym c.if-eq.true ∙ c.eq.ensures) ∙ both_same g.T.PartialEq.eq _ _ _ _ _ _ c.self.view_is c.other.view_is c.self.invariant c.other.invariant)

pub returns-else-eq : goal.returns-else-eq
returns-else-eq g c =
    c.if-eq.false ∙ (ap (λ b. b && pointwise same_span c.self.inside.spans.items c.other.inside.spans.items) (sym c.if-eq.false ∙ c.eq.ensures) ∙ both_same g.T.PartialEq.eq _ _ _ _ _ _ c.self.view_is c.other.view_is c.self.invariant c.other.invariant)
