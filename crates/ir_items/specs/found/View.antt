-- The plain data of functions, entry points and the module.
use Rattle.std.specs.Prelude.{[], None, option_map, string_bytes, map}
use Rattle.ir_blocks.specs.IrTypes.{type_view, expression_view}
use Rattle.ir_blocks.specs.judged.Plain.{stop}
use Rattle.ir_items.specs.judged.Plain.{PlainArgument, PlainLocal, PlainFunction, PlainEntry, PlainModule}
use Rattle.ir_items.specs.declared.functions.LocalVariable.{LocalVariable}
use Rattle.ir_items.specs.declared.functions.FunctionArgument.{FunctionArgument}
use Rattle.ir_items.specs.declared.functions.Function.{Function}
use Rattle.ir_items.specs.declared.entries.EntryPoint.{EntryPoint}
use Rattle.ir_items.specs.declared.module.Module.{Module}
use Rattle.ir_blocks.specs.found.View.{block_view}
use Rattle.ir_items.specs.found.GlobalView.{values_of, constant_view, override_view, global_view, node_view, special_view, no_special}

abbrev pub argument_view : FunctionArgument → PlainArgument
argument_view a = record { name = option_map string_bytes a.name; ty = a.ty; binding = a.binding }

abbrev pub local_view : LocalVariable → PlainLocal
local_view l = record { name = option_map string_bytes l.name; ty = l.ty; init = l.init }

abbrev pub function_view : Function → PlainFunction
function_view f = record {
  name = option_map string_bytes f.name;
  arguments = map argument_view f.arguments.items;
  result = f.result;
  locals = map local_view (values_of f.local_variables);
  expressions = map expression_view (values_of f.expressions);
  body = block_view f.body;
  leaf = f.diagnostic_filter_leaf;
}

-- a function without arguments, result and statements
abbrev pub empty_function : PlainFunction
empty_function = record { name = None; arguments = []; result = None; locals = []; expressions = []; body = stop; leaf = None }

abbrev pub entry_view : EntryPoint → PlainEntry
entry_view e = record {
  stage = e.stage;
  name = string_bytes e.name;
  early = e.early_depth_test;
  sizes = e.workgroup_size;
  mesh = e.mesh_info;
  payload = e.task_payload;
  function = function_view e.function;
}

abbrev pub module_view : Module → PlainModule
module_view m = record {
  types = map type_view (values_of m.types);
  special = special_view m.special_types;
  filters = map node_view (values_of m.diagnostic_filters);
  leaf = m.diagnostic_filter_leaf;
  constants = map constant_view (values_of m.constants);
  overrides = map override_view (values_of m.overrides);
  global_expressions = map expression_view (values_of m.global_expressions);
  globals = map global_view (values_of m.global_variables);
  functions = map function_view (values_of m.functions);
  entries = map entry_view m.entry_points.items;
}

-- an empty module
abbrev pub empty_module : PlainModule
empty_module = record {
  types = [];
  special = no_special;
  filters = [];
  leaf = None;
  constants = [];
  overrides = [];
  global_expressions = [];
  globals = [];
  functions = [];
  entries = [];
}
