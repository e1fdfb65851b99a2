-- What a module with valid handles guarantees to later passes: layout, typing and the analysis of functions.
use Rattle.std.specs.Prelude.{◌≡◌, ℕ, Some, length, slice_get}
use Rattle.ir_items.specs.judged.Plain.{PlainFunction, PlainEntry, PlainModule}
use Rattle.ir_items.specs.found.Filters.{ParentsPrecede}
use Rattle.spec_expressions.specs.judged.FunctionHandles.{HandlesInRange, OperandsPrecede, CalleesPrecede}
use Rattle.spec_expressions.specs.judged.ModuleHandles.{HandlesOK}
use Rattle.typing_forms.specs.judged.Order.{TypesGoBack}

-- what the analysis requires of a function at this index, besides the parents of filters and the arities
-- of calls
pub record FunctionConditions (m : PlainModule) (before : ℕ) (f : PlainFunction) : Type 0 where
  pub in_range : HandlesInRange m f
  pub operands : OperandsPrecede f.expressions
  pub callees : CalleesPrecede before f

pub record ModuleConditions (m : PlainModule) : Type 0 where
  pub types : TypesGoBack m.types
  pub filters : ParentsPrecede m.filters
  pub global_expressions : OperandsPrecede m.global_expressions
  pub functions : (i : ℕ) (f : PlainFunction) → slice_get m.functions i ≡ Some f → FunctionConditions m i f
  pub entries : (k : ℕ) (x : PlainEntry) → slice_get m.entries k ≡ Some x → FunctionConditions m (length m.functions) x.function

abbrev pub OrderGivesConditions : Type 0
OrderGivesConditions = (m : PlainModule) → HandlesOK m → ModuleConditions m
