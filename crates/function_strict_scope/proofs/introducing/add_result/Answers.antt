use Rattle.std.proofs.Common.{◌≡◌, ◌++◌, ap, sym, subst, ◌∙◌}
use Rattle.ir_arena.specs.judged.Handles.{handles_between}
use Rattle.function_strict_scope.proofs.LiveLemmas.{one_between}
use Rattle.function_strict_scope.specs.Live.{Follows}
use Rattle.function_strict_scope.proofs.introducing.add_result.Goals as goal

pub returns-clause-live : goal.returns-clause-live
returns-clause-live c = λ f follows.
    let sure = c.args.sure.now in
    let one : sure ++ handles_between c.new_from_bounds.result ≡ c.add.new.sure =
    ap (λ q. sure ++ handles_between q) c.new_from_bounds.ensures ∙ ap (λ xs. sure ++ xs) (one_between c.args.handle) ∙ sym c.in_ok-add.ensures.added in
    subst (Follows f c.bring.new.live) one (c.bring.ensures f sure follows)
