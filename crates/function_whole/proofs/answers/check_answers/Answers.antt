use Rattle.std.proofs.Common.{subst, sym}
use Rattle.function_whole.proofs.Marks.{as_many, all_answer, unanswered}
use Rattle.function_whole.specs.Faults.{IsUnanswered}
use Rattle.function_interface.specs.Answered.{AllAnswered, IsUnansweredFault}
use Rattle.ir_arena.specs.found.Arenas.{value_of_entry}
use Rattle.ir_types.specs.judged.ExpressionPlain.{expression_view}
use Rattle.function_statement_checks.specs.View.{context_view}
use Rattle.function_whole.proofs.answers.check_answers.Goals as goal

pub returns-in-Ok-check_answered : goal.returns-in-Ok-check_answered
returns-in-Ok-check_answered c =
    let x = context_view c.args.context.now in
    all_answer x c.args.answered.now c.in-Ok.marks.items c.len.result (as_many value_of_entry expression_view c.args.context.now.function.now.expressions c.len.result c.len.ensures.value)
    c.in-Ok.ensures.each c.requires (subst (AllAnswered x.f.expressions) c.deref.ensures.value c.in-Ok-check_answered.ensures)

pub returns : goal.returns
returns c =
    let x = context_view c.args.context.now in (
      subst (IsUnanswered x.f) (sym c.new.ensures.error)
          (unanswered x c.args.answered.now c.in-Ok.marks.items c.len.result (as_many value_of_entry expression_view c.args.context.now.function.now.expressions c.len.result c.len.ensures.value)
          c.in-Ok.ensures.each c.requires c.in-Err-check_answered.error
          (subst (λ marks. IsUnansweredFault x.f.expressions marks c.in-Err-check_answered.error) c.deref.ensures.value c.in-Err-check_answered.ensures)),
      c.new.ensures.spans,
    )
