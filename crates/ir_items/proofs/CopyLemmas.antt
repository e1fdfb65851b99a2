-- Functions and modules are copied part by part.
use Rattle.std.proofs.Common.{◌≡◌, List, [], ◌∷◌, map, option_map, string_bytes, refl, sym, ap, ◌∙◌}
use Rattle.ir_blocks.specs.IrTypes.{expression_view, type_view}
use Rattle.ir_blocks.specs.found.View.{block_view, block_spans}
use Rattle.ir_items.specs.found.GlobalView.{values_of, special_view, constant_view, override_view, global_view, node_view}
use Rattle.ir_items.specs.found.View.{argument_view, local_view, function_view, entry_view}
use Rattle.ir_blocks.specs.IrArena.{entry_of}
use Rattle.ir_items.specs.found.Copies.{SpannedFunction, spanned_function, SpannedEntry, spanned_entry, spanned_module}
use Rattle.ir_items.specs.declared.entries.EntryPoint.{EntryPoint}
use Rattle.ir_items.specs.declared.module.Module.{Module}
use Rattle.ir_items.specs.declared.functions.Function.{Function}
use Rattle.ir_blocks.proofs.IrArena.{same_values}

-- a function is copied part by part
pub same_function : (f g : Function) → option_map string_bytes f.name ≡ option_map string_bytes g.name → map argument_view f.arguments.items ≡ map argument_view g.arguments.items → f.result ≡ g.result
    → map (entry_of local_view) f.local_variables ≡ map (entry_of local_view) g.local_variables → map (entry_of expression_view) f.expressions ≡ map (entry_of expression_view) g.expressions
    → block_view f.body ≡ block_view g.body → block_spans f.body ≡ block_spans g.body → f.diagnostic_filter_leaf ≡ g.diagnostic_filter_leaf → spanned_function f ≡ spanned_function g
same_function f g names arguments answers locals expressions bodies spans leaves = λ i. record {
  plain = record {
    name = names i;
    arguments = arguments i;
    result = answers i;
    locals = same_values local_view f.local_variables g.local_variables locals i;
    expressions = same_values expression_view f.expressions g.expressions expressions i;
    body = bodies i;
    leaf = leaves i;
  };
  locals = locals i;
  expressions = expressions i;
  body = spans i;
}

-- the view of functions and entry points with spans determines the plain one
plain_functions : (fs : List Function) → map function_view fs ≡ map (λ (s : SpannedFunction). s.plain) (map spanned_function fs)
plain_functions [] = refl
plain_functions (f ∷ fs) = ap (λ rest. function_view f ∷ rest) (plain_functions fs)

pub plain_entries : (es : List EntryPoint) → map entry_view es ≡ map (λ (s : SpannedEntry). s.plain) (map spanned_entry es)
plain_entries [] = refl
plain_entries (e ∷ es) = ap (λ rest. entry_view e ∷ rest) (plain_entries es)

-- functions and entry points with equal views with spans have equal plain views
pub same_functions : (xs ys : List Function) → map spanned_function xs ≡ map spanned_function ys → map function_view xs ≡ map function_view ys
same_functions xs ys e = plain_functions xs ∙ (ap (map (λ (s : SpannedFunction). s.plain)) e ∙ sym (plain_functions ys))

pub same_entries : (xs ys : List EntryPoint) → map spanned_entry xs ≡ map spanned_entry ys → map entry_view xs ≡ map entry_view ys
same_entries xs ys e = plain_entries xs ∙ (ap (map (λ (s : SpannedEntry). s.plain)) e ∙ sym (plain_entries ys))

-- a module is copied arena by arena
pub same_module : (m n : Module) → map (entry_of type_view) m.types ≡ map (entry_of type_view) n.types → special_view m.special_types ≡ special_view n.special_types
    → map (entry_of constant_view) m.constants ≡ map (entry_of constant_view) n.constants → map (entry_of override_view) m.overrides ≡ map (entry_of override_view) n.overrides
    → map (entry_of global_view) m.global_variables ≡ map (entry_of global_view) n.global_variables → map (entry_of expression_view) m.global_expressions ≡ map (entry_of expression_view) n.global_expressions
    → map (entry_of spanned_function) m.functions ≡ map (entry_of spanned_function) n.functions → map spanned_entry m.entry_points.items ≡ map spanned_entry n.entry_points.items
    → map (entry_of node_view) m.diagnostic_filters ≡ map (entry_of node_view) n.diagnostic_filters → m.diagnostic_filter_leaf ≡ n.diagnostic_filter_leaf → spanned_module m ≡ spanned_module n
same_module m n types special constants overrides globals expressions functions entries filters leaves = λ i. record {
  plain = record {
    types = same_values type_view m.types n.types types i;
    special = special i;
    filters = same_values node_view m.diagnostic_filters n.diagnostic_filters filters i;
    leaf = leaves i;
    constants = same_values constant_view m.constants n.constants constants i;
    overrides = same_values override_view m.overrides n.overrides overrides i;
    global_expressions = same_values expression_view m.global_expressions n.global_expressions expressions i;
    globals = same_values global_view m.global_variables n.global_variables globals i;
    functions = same_functions (values_of m.functions) (values_of n.functions) (same_values spanned_function m.functions n.functions functions) i;
    entries = same_entries m.entry_points.items n.entry_points.items entries i;
  };
  types = types i;
  filters = filters i;
  constants = constants i;
  overrides = overrides i;
  global_expressions = expressions i;
  globals = globals i;
  functions = functions i;
  entries = entries i;
}
