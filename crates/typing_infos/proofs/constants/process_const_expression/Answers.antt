use Rattle.std.proofs.Common.{arith, sym, subst, map}
use Rattle.ir_types.specs.judged.ExpressionPlain.{expression_view}
use Rattle.ir_items.specs.found.GlobalView.{values_of}
use Rattle.spec_expressions.specs.judged.Context.{NamesItem}
use Rattle.typing_infos.specs.Types.{TypedSoFar}
use Rattle.typing_errors.specs.Answers.{IsAnswer}
use Rattle.ir_items.proofs.Lookups.{found}
use Rattle.typing_infos.proofs.TypeLemmas.{operands_below}
use Rattle.typing_infos.proofs.constants.process_const_expression.Goals as goal

pub type_pointed-requires-clause-named : goal.type_pointed-requires-clause-named
type_pointed-requires-clause-named c =
    let at = found expression_view c.args.«module».now.global_expressions c.args.handle c.index-expression.result.now c.index-expression.ensures in
    subst (λ z. NamesItem z (expression_view c.index-expression.result.now)) (sym c.outside-context.ensures) (c.requires.named c.args.handle (expression_view c.index-expression.result.now) at)

pub type_pointed-requires-clause-precede : goal.type_pointed-requires-clause-precede
type_pointed-requires-clause-precede c =
    let xs = map expression_view (values_of c.args.«module».now.global_expressions) in
    let at = found expression_view c.args.«module».now.global_expressions c.args.handle c.index-expression.result.now c.index-expression.ensures in
    λ o among. let below = operands_below xs c.requires.precede c.args.handle (expression_view c.index-expression.result.now) at o among in let known = c.requires.known in omega (arith, below, known)

pub returns : goal.returns
returns c =
    let xs = map expression_view (values_of c.args.«module».now.global_expressions) in
    let at = found expression_view c.args.«module».now.global_expressions c.args.handle c.index-expression.result.now c.index-expression.ensures in
    subst (λ z. IsAnswer z xs c.args.handle c.type_pointed.result) c.outside-context.ensures
    (c.type_pointed.ensures xs c.args.handle at (subst (λ z. TypedSoFar z xs c.args.types.now) (sym c.outside-context.ensures) c.requires.typed))
