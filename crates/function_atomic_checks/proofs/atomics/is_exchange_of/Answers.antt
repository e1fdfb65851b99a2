use Rattle.std.proofs.Common.{◌≡◌, ◌↔◌, Some, None, subst}
use Rattle.module_expressions.proofs.ModuleExpressionChecks.{by_test, by_none}
use Rattle.spec_statements.specs.judged.ExpressionResults.{IsExchangeOf}
use Rattle.typing_forms.specs.judged.Resolutions.{inner_at}
use Rattle.typing_forms.specs.declared.form.Form.{Form}
use Rattle.typing_forms.specs.declared.form.Form.TheVariants as form
use Rattle.function_atomic_checks.proofs.atomics.is_exchange_of.Goals as goal

pub returns-in-Some : goal.returns-in-Some
returns-in-Some g c =
    let types = (g.C.StatementContext.seen c.args.context.now).m.types in
    by_test (λ old. old ≡ form.Scalar c.args.scalar) types (inner_at types c.args.ty) c.in-Some.old c.are_same.result
    (subst (λ ts. (of : Form) → (Some c.in-Some.old ≡ Some of) ↔ IsExchangeOf (λ x. x ≡ of) ts (inner_at ts c.args.ty)) c.types.ensures c.in-Some.ensures)
    c.are_same.ensures

pub returns-in-None : goal.returns-in-None
returns-in-None g c =
    let types = (g.C.StatementContext.seen c.args.context.now).m.types in
    by_none (λ old. old ≡ form.Scalar c.args.scalar) types (inner_at types c.args.ty)
    (subst (λ ts. (of : Form) → (None ≡ Some of) ↔ IsExchangeOf (λ x. x ≡ of) ts (inner_at ts c.args.ty)) c.types.ensures c.in-None.ensures)
