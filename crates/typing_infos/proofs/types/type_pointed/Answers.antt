use Rattle.std.proofs.Common.{rules}
use Rattle.std.specs.Prelude.{slice_index_or}
use Rattle.ir_types.specs.judged.ExpressionPlain.{expression_view}
use Rattle.typing_errors.specs.Answers.{form_given}
use Rattle.typing_resolve.specs.View.{context_view}
use Rattle.typing_infos.proofs.TypeLemmas.{operands_typed}
use Rattle.typing_infos.proofs.types.type_pointed.Goals as goal

pub returns : goal.returns
returns c = λ xs place stands typed.
    c.resolve.ensures.decides xs place (λ o. form_given (context_view c.args.context.now).types (slice_index_or c.args.types.now o c.args.missing.now)) stands
    (operands_typed (context_view c.args.context.now) xs c.args.types.now c.args.missing.now (expression_view c.args.expression.now) c.requires.precede typed)
    (λ o r among post. search rules)
