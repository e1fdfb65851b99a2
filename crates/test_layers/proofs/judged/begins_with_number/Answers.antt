use Rattle.shader_ir.specs.View.{module_view}
use Rattle.test_layers.proofs.judged.begins_with_number.Goals as goal

pub process_const_expression-answer-requires-clause-precede : goal.process_const_expression-answer-requires-clause-precede
process_const_expression-answer-requires-clause-precede c = (c.order_gives_expressions.ensures (module_view c.args.«module».now) c.in-Ok.ensures).globals.operands
