use Rattle.std.proofs.Common.{[], Some, refl}
use Rattle.ir_blocks.specs.judged.Places.{here, later, inside}
use Rattle.ir_blocks.specs.judged.Plain.{call}
use Rattle.ir_blocks.specs.judged.Shapes.{inner}
use Rattle.judgement_laws.proofs.AnswerExamples.{none_answers, answered_once}
use Rattle.judgement_laws.proofs.statement_examples.answers.Goals as goal
use Rattle.spec_statements.specs.judged.Results.{of_call}

pub returns-clause-answered : goal.returns-clause-answered
returns-clause-answered c = answered_once

pub returns-clause-answered_in_two_blocks : goal.returns-clause-answered_in_two_blocks
returns-clause-answered_in_two_blocks c ok =
    let same = ok.once (inside inner here) (later (inside inner here)) 0 (call 0 [] (Some 0), refl, refl) (call 0 [] (Some 0), refl, refl) in cc

pub returns-clause-not_answered : goal.returns-clause-not_answered
returns-clause-not_answered c ok = let by = ok.each refl 0 (of_call refl) in none_answers by.0 0 by.1

pub returns-clause-answered_where_blocks_alone_are_asked : goal.returns-clause-answered_where_blocks_alone_are_asked
returns-clause-answered_where_blocks_alone_are_asked c ok = let has = ok.asked here 0 (call 0 [] (Some 0), refl, refl) in cc
