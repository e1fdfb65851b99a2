-- The views of a module's items as plain data, re-exported.
pub use Rattle.ir_types.specs.judged.Plain.{member_view, inner_view, type_view}
pub use Rattle.ir_types.specs.judged.ExpressionPlain.{expression_view, implicit_derivatives, always_in_scope, is_dynamic}
pub use Rattle.ir_blocks.specs.found.View.{block_of, PlainCase, cases_of, statement_view, block_view, case_view, statements_view}
pub use Rattle.ir_blocks.specs.found.View.{statement_spans, block_spans, case_block_spans, statements_of, spans_of, room_for_statements}
pub use Rattle.ir_items.specs.found.GlobalView.{constant_view, override_view, global_view, rule_view, node_view, special_view, values_of}
pub use Rattle.ir_items.specs.found.View.{argument_view, local_view, function_view, entry_view, module_view}
