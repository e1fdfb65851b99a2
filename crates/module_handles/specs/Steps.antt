-- The requirements of later checks on expressions, as those checks state them.
use Rattle.std.specs.Prelude.{◌≡◌, ℕ, List, Some, map, slice_get}
use Rattle.ir_arena.specs.found.Arenas.{value_of_entry}
use Rattle.ir_types.specs.judged.ExpressionPlain.{PlainExpression, expression_view}
use Rattle.ir_items.specs.found.GlobalView.{values_of}
use Rattle.ir_items.specs.judged.Plain.{PlainFunction, PlainEntry, PlainModule}
use Rattle.ir_items.specs.found.View.{module_view}
use Rattle.ir_items.specs.declared.entries.EntryPoint.{EntryPoint}
use Rattle.ir_items.specs.declared.functions.Function.{Function}
use Rattle.ir_items.specs.declared.module.Module.{Module}
use Rattle.spec_expressions.specs.judged.Values.{UsesPrecede}
use Rattle.spec_expressions.specs.judged.Context.{Context, inside, outside, NamesItem}
use Rattle.spec_expressions.specs.judged.ModuleHandles.{HandlesOK}
use Rattle.typing_layout.specs.judged.Constness.{OriginsPrecede}

-- the items that expressions reference exist, and their operands precede
pub record ExpressionConditions (c : Context) (expressions : List PlainExpression) : Type 0 where
  pub items : (e : ℕ) (x : PlainExpression) → slice_get expressions e ≡ Some x → NamesItem c x
  pub operands : UsesPrecede expressions

pub record AllExpressions (m : PlainModule) : Type 0 where
  pub globals : ExpressionConditions (outside m) m.global_expressions
  pub functions : (i : ℕ) (f : PlainFunction) → slice_get m.functions i ≡ Some f → ExpressionConditions (inside m f) f.expressions
  pub entries : (k : ℕ) (x : PlainEntry) → slice_get m.entries k ≡ Some x → ExpressionConditions (inside m x.function) x.function.expressions

abbrev pub OrderGivesExpressions : Type 0
OrderGivesExpressions = (m : PlainModule) → HandlesOK m → AllExpressions m

-- the kinds of expressions follow from earlier ones: in a module, its functions and its entry points
pub record AllOrigins (m : Module) : Type 0 where
  pub globals : OriginsPrecede (map expression_view (map value_of_entry m.global_expressions))
  pub functions : (i : ℕ) (f : Function) → slice_get (values_of m.functions) i ≡ Some f → OriginsPrecede (map expression_view (map value_of_entry f.expressions))
  pub entries : (k : ℕ) (x : EntryPoint) → slice_get m.entry_points.items k ≡ Some x → OriginsPrecede (map expression_view (map value_of_entry x.function.expressions))

abbrev pub OrderGivesOrigins : Type 0
OrderGivesOrigins = (m : Module) → HandlesOK (module_view m) → AllOrigins m
