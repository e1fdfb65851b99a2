use Rattle.std.proofs.Common.{refl}
use Rattle.ir_blocks.specs.judged.Places.{here, later, inside}
use Rattle.ir_blocks.specs.judged.Shapes.{case_at, loop_continuing}
use Rattle.judgement_laws.proofs.ScopeExamples.{in_order, used_early, brought_again}
use Rattle.judgement_laws.proofs.statement_examples.scope.Goals as goal

pub returns-clause-emitted_twice : goal.returns-clause-emitted_twice
returns-clause-emitted_twice c = brought_again _ (later here) 1 refl refl

pub returns-clause-emitted_in_two_blocks : goal.returns-clause-emitted_in_two_blocks
returns-clause-emitted_in_two_blocks c = in_order _ refl

pub returns-clause-literal_emitted : goal.returns-clause-literal_emitted
returns-clause-literal_emitted c = brought_again _ here 0 refl refl

pub returns-clause-operand_not_emitted : goal.returns-clause-operand_not_emitted
returns-clause-operand_not_emitted c = in_order _ refl

pub returns-clause-used_behind_its_block : goal.returns-clause-used_behind_its_block
returns-clause-used_behind_its_block c = used_early _ (later here) 1 refl refl

pub returns-clause-used_in_the_next_case : goal.returns-clause-used_in_the_next_case
returns-clause-used_in_the_next_case c = used_early _ (inside (case_at 1) here) 1 refl refl

pub returns-clause-condition_behind_a_continue : goal.returns-clause-condition_behind_a_continue
returns-clause-condition_behind_a_continue c = in_order _ refl

pub returns-clause-condition_from_the_continuing_part : goal.returns-clause-condition_from_the_continuing_part
returns-clause-condition_from_the_continuing_part c = in_order _ refl

pub returns-clause-emitted_in_both_parts : goal.returns-clause-emitted_in_both_parts
returns-clause-emitted_in_both_parts c = brought_again _ (inside loop_continuing here) 1 refl refl

pub returns-clause-used_behind_its_loop : goal.returns-clause-used_behind_its_loop
returns-clause-used_behind_its_loop c = used_early _ (later here) 1 refl refl
