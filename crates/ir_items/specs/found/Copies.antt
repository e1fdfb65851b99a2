-- Views of items with the nested spans.
use Rattle.std.specs.Prelude.{List, map}
use Rattle.ir_blocks.specs.IrArena.{Span, entry_of}
use Rattle.ir_blocks.specs.IrTypes.{PlainType, type_view, PlainExpression, expression_view}
use Rattle.ir_items.specs.judged.GlobalPlain.{PlainConstant, PlainOverride, PlainGlobal, PlainFilterNode}
use Rattle.ir_items.specs.judged.Plain.{PlainLocal, PlainFunction, PlainEntry, PlainModule}
use Rattle.ir_blocks.specs.found.Spans.{BlockSpans}
use Rattle.ir_blocks.specs.found.View.{block_spans}
use Rattle.ir_items.specs.found.GlobalView.{constant_view, override_view, global_view, node_view}
use Rattle.ir_items.specs.found.View.{local_view, function_view, entry_view, module_view}
use Rattle.ir_items.specs.declared.functions.Function.{Function}
use Rattle.ir_items.specs.declared.entries.EntryPoint.{EntryPoint}
use Rattle.ir_items.specs.declared.module.Module.{Module}

-- A function with the spans of its variables, its expressions and its statements.
pub record SpannedFunction : Type 0 where
  pub plain : PlainFunction
  pub locals : List (PlainLocal × Span)
  pub expressions : List (PlainExpression × Span)
  pub body : BlockSpans

abbrev pub spanned_function : Function → SpannedFunction
spanned_function f = record {
  plain = function_view f;
  locals = map (entry_of local_view) f.local_variables;
  expressions = map (entry_of expression_view) f.expressions;
  body = block_spans f.body;
}

-- An entry point with the spans of its function.
pub record SpannedEntry : Type 0 where
  pub plain : PlainEntry
  pub function : SpannedFunction

abbrev pub spanned_entry : EntryPoint → SpannedEntry
spanned_entry e = record { plain = entry_view e; function = spanned_function e.function }

-- A module with the spans of all its items.
pub record SpannedModule : Type 0 where
  pub plain : PlainModule
  pub types : List (PlainType × Span)
  pub filters : List (PlainFilterNode × Span)
  pub constants : List (PlainConstant × Span)
  pub overrides : List (PlainOverride × Span)
  pub global_expressions : List (PlainExpression × Span)
  pub globals : List (PlainGlobal × Span)
  pub functions : List (SpannedFunction × Span)
  pub entries : List SpannedEntry

abbrev pub spanned_module : Module → SpannedModule
spanned_module m = record {
  plain = module_view m;
  types = map (entry_of type_view) m.types;
  filters = map (entry_of node_view) m.diagnostic_filters;
  constants = map (entry_of constant_view) m.constants;
  overrides = map (entry_of override_view) m.overrides;
  global_expressions = map (entry_of expression_view) m.global_expressions;
  globals = map (entry_of global_view) m.global_variables;
  functions = map (entry_of spanned_function) m.functions;
  entries = map spanned_entry m.entry_points.items;
}
