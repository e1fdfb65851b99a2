use Rattle.function_strict_scope.proofs.LiveLemmas.{begins}
use Rattle.function_strict_scope.proofs.pairs.index_of.Goals as goal

pub returns : goal.returns
returns c = λ f is.
    let kept = rw (c.deref.ensures.value, c.deref-2.ensures.value) at c.in_ok-operands.ensures.kept in
    begins f _ c.args.pairs.now.operands.items c.args.pairs.now.users.items c.in_ok-operands.field-0.operands.items c.in_ok-operands.field-0.users.items is
    c.in_ok-new.ensures.operands c.in_ok-new.ensures.users kept c.in_ok-new.ensures.lacking c.new-2.ensures.items
