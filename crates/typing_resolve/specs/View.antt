-- The contents of a resolve context, as mathematical values.
use Rattle.std.specs.Prelude.{map}
use Rattle.ir_items.specs.found.GlobalView.{values_of, constant_view, override_view, global_view, special_view}
use Rattle.ir_items.specs.found.View.{argument_view, local_view, function_view}
use Rattle.typing_forms.specs.judged.Resolutions.{types_view}
use Rattle.spec_expressions.specs.judged.Context.{Context}
use Rattle.typing_resolve.specs.declared.context.ResolveContext.{ResolveContext}

abbrev pub context_view : ResolveContext → Context
context_view c = record {
  types = types_view c.types.now;
  special = special_view c.special_types.now;
  constants = map constant_view (values_of c.constants.now);
  overrides = map override_view (values_of c.overrides.now);
  globals = map global_view (values_of c.global_vars.now);
  functions = map function_view (values_of c.functions.now);
  locals = map local_view (values_of c.local_vars.now);
  arguments = map argument_view c.arguments.now;
}
