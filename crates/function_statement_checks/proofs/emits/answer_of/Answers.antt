use Rattle.std.proofs.Common.{None, Some, sym, subst}
use Rattle.function_statement_checks.specs.Emits.{IsAnswerOf}
use Rattle.function_statement_checks.proofs.EmitLemmas.{answer_between}
use Rattle.function_statement_checks.proofs.emits.answer_of.Goals as goal

pub returns-in-Some : goal.returns-in-Some
returns-in-Some c = λ expressions are.
    subst (λ h. IsAnswerOf expressions c.args.range (Some h)) (sym c.at.ensures)
    (answer_between expressions c.args.answers.now are c.args.range c.index_range-bounds.result.start c.index_range-bounds.result.end (Some c.in-Some.place)
    c.index_range-bounds.ensures.start c.index_range-bounds.ensures.end tt c.in-Some.ensures.some)

pub returns-in-None : goal.returns-in-None
returns-in-None c = λ expressions are.
    answer_between expressions c.args.answers.now are c.args.range c.index_range-bounds.result.start c.index_range-bounds.result.end None
    c.index_range-bounds.ensures.start c.index_range-bounds.ensures.end c.in-None.ensures.none tt
