use Rattle.std.proofs.Common.{◌≡◌, sym, ◌∙◌}
use Rattle.ir_types.specs.contracts.types.TypeInnerPartialEq.TheImpl as of_inner
use Rattle.module_type_checks.proofs.SameInner.{inner_equality}
use Rattle.module_type_checks.proofs.blends.is_same.Goals as goal

pub returns : goal.returns
returns c =
    let is : c.eq.result ≡ of_inner.ghosts.eq c.args.left.now c.args.right.now = c.eq.ensures in
    let law = inner_equality c.args.left.now c.args.right.now in
    ((λ yes. law.0 (sym is ∙ yes)), (λ same. is ∙ law.1 same))
