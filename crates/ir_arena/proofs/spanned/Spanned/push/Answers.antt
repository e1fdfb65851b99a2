use Rattle.std.proofs.Common.{[], ◌∷◌, ◌++◌, ap, ◌∙◌}
use Rattle.ir_arena.proofs.Zipped.{pushed}
use Rattle.ir_arena.proofs.spanned.Spanned.push.Goals as goal

pub returns-clause-ok : goal.returns-clause-ok
returns-clause-ok g c =
    pushed c.self.inside.values.items _ c.self.inside.spans.items _ c.args.self.now c.args.value c.args.span c.self.view_is c.self.invariant c.in_ok-push.ensures.items
    (c.push_reserved.ensures.items ∙ ap (λ l. l ++ c.args.span ∷ []) c.reserve.ensures.items)
