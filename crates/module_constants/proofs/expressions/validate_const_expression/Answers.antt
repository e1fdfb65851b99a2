use Rattle.std.proofs.Common.{◌≡◌, ◌∙◌, Some, ap, rules}
use Rattle.typing_errors.specs.declared.const_expressions.ConstExpressionError.TheVariants as error
use Rattle.ir_types.specs.judged.ExpressionPlain.{expression_view}
use Rattle.module_constants.proofs.Reported.{expression_refused, expression_told}
use Rattle.module_constants.specs.Known.{module_in}
use Rattle.typing_layout.specs.declared.constness.ExpressionKind.TheVariants.{Runtime}
use Rattle.ir_items.proofs.Lookups.{found}
use Rattle.module_constants.proofs.expressions.validate_const_expression.Goals as goal

pub returns-then-eq : goal.returns-then-eq
returns-then-eq c =
    let late : c.known_kind-kind.result ≡ Runtime = search rules in
    expression_refused c.args.context.now.capabilities c.args.context.now.overrides_resolved (module_in c.args.context.now) c.args.handle error.NonConstOrOverride
    (c.requires.known.kinds.each c.args.handle Runtime (c.known_kind-kind.ensures ∙ ap Some late))

pub check_met-requires-clause-stands : goal.check_met-requires-clause-stands
check_met-requires-clause-stands c = found expression_view c.args.context.now.module.now.global_expressions c.args.handle c.index.result.now c.index.ensures

pub returns : goal.returns
returns c =
    expression_told c.args.context.now.capabilities c.args.context.now.overrides_resolved (module_in c.args.context.now) c.args.handle (expression_view c.index.result.now) c.known_kind-kind.result c.check_met.result
    (found expression_view c.args.context.now.module.now.global_expressions c.args.handle c.index.result.now c.index.ensures)
    (c.requires.known.kinds.each c.args.handle c.known_kind-kind.result c.known_kind-kind.ensures) (search rules) c.check_met.ensures
