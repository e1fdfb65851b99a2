-- The module of arenas and lists that were copied.
use Rattle.std.specs.Prelude.{ℕ, Option}
use Rattle.ir_items.specs.declared.module.Module.{Module}
use Rattle.ir_items.specs.declared.module_lists.TypeLists.{TypeLists}
use Rattle.ir_items.specs.declared.module_lists.GlobalLists.{GlobalLists}
use Rattle.ir_items.specs.declared.module_lists.CodeLists.{CodeLists}

abbrev pub module_of : TypeLists → GlobalLists → CodeLists → Option ℕ → Module
module_of types globals code leaf = record {
  types = types.types;
  special_types = types.special;
  constants = globals.constants.constants;
  overrides = globals.constants.overrides;
  global_variables = globals.variables.variables;
  global_expressions = globals.variables.expressions;
  functions = code.functions;
  entry_points = code.entry_points;
  diagnostic_filters = code.filters;
  diagnostic_filter_leaf = leaf;
}
