-- The parts of a module with valid handles, and the errors of each part.
use Rattle.std.specs.Prelude.{◌≡◌, ◌⊎◌, ℕ, ◌<◌, ◌≤◌, Some, None, slice_get}
use Rattle.ir_types.specs.judged.ExpressionPlain.{PlainExpression}
use Rattle.ir_items.specs.judged.GlobalPlain.{PlainConstant, PlainOverride, PlainGlobal}
use Rattle.ir_items.specs.judged.Plain.{PlainFunction, PlainEntry, PlainModule}
use Rattle.typing_references.specs.Faults.{outside_functions, IsMissingFault, IsForwardOperand, IsForwardCallee}
use Rattle.typing_references.specs.declared.fault.HandleFault.{HandleFault}
use Rattle.typing_references.specs.declared.fault.HandleFault.TheVariants as fault
use Rattle.ir_types.specs.judged.Plain.{PlainInner, PlainType}
use Rattle.module_handles.specs.Found.{special_missing, leaf_missing, constant_missing, override_missing, variable_missing, entry_missing, named_missing, pending_missing, init_forward, built_forward, named_forward, looked_through}
use Rattle.module_handles.specs.LookupFound.{counted_forward}
use Rattle.typing_handles.specs.Conditions.{FunctionConditions}
use Rattle.spec_expressions.specs.judged.FunctionHandles.{HandlesInRange, OperandsPrecede}
use Rattle.spec_expressions.specs.judged.ModuleHandles.{IsMissing, IsRangeOut, IsForward}

-- the module has the error
abbrev pub IsFaultIn : PlainModule → HandleFault → Type 0
IsFaultIn m (fault.Missing k place) = IsMissing m k place
IsFaultIn m (fault.Forward k place depends_on) = IsForward m k place depends_on
IsFaultIn m (fault.Range first end) = IsRangeOut m (record { first = first; end = end })

-- ---- types

-- the global expressions in this range reference only types before this index
abbrev pub NamesBefore : PlainModule → (place from end : ℕ) → Type 0
NamesBefore m place from end = (e : ℕ) (x : PlainExpression) → from ≤ e → e < end → slice_get m.global_expressions e ≡ Some x → named_forward m place x ≡ None

-- one of them does not
pub record NamesForward (m : PlainModule) (place from end : ℕ) (h : HandleFault) : Type 0 where
  pub e : ℕ
  pub x : PlainExpression
  pub behind : from ≤ e
  pub before : e < end
  pub at : slice_get m.global_expressions e ≡ Some x
  pub found : named_forward m place x ≡ Some h

-- The type at an index references existing, earlier items.
pub record TypeOK (m : PlainModule) (place : ℕ) (i : PlainInner) : Type 0 where
  pub there : pending_missing (outside_functions m) i ≡ None
  pub built : built_forward place i ≡ None
  pub counted : counted_forward m place i ≡ None
  pub looked : NamesBefore m place 0 (looked_through m i)

abbrev pub TypesBelow : PlainModule → ℕ → Type 0
TypesBelow m end = (place : ℕ) (x : PlainType) → place < end → slice_get m.types place ≡ Some x → TypeOK m place x.inner

abbrev pub TypesOK : PlainModule → Type 0
TypesOK m = (place : ℕ) (x : PlainType) → slice_get m.types place ≡ Some x → TypeOK m place x.inner

-- ---- all other items outside functions

pub record ItemsOK (m : PlainModule) : Type 0 where
  pub special : special_missing (outside_functions m) m.special ≡ None
  pub leaf : leaf_missing (outside_functions m) m.leaf ≡ None
  pub constants : (i : ℕ) (x : PlainConstant) → slice_get m.constants i ≡ Some x → constant_missing (outside_functions m) x ≡ None
  pub overrides : (i : ℕ) (x : PlainOverride) → slice_get m.overrides i ≡ Some x → override_missing (outside_functions m) x ≡ None
  pub variables : (i : ℕ) (x : PlainGlobal) → slice_get m.globals i ≡ Some x → variable_missing (outside_functions m) x ≡ None

-- the global expression at an index, operands aside
pub record GlobalExpressionOK (m : PlainModule) (e : ℕ) (x : PlainExpression) : Type 0 where
  pub there : named_missing (outside_functions m) x ≡ None
  pub init : init_forward m e x ≡ None

abbrev pub GlobalExpressionsOK : PlainModule → Type 0
GlobalExpressionsOK m = (e : ℕ) (x : PlainExpression) → slice_get m.global_expressions e ≡ Some x → GlobalExpressionOK m e x

abbrev pub IsGlobalExpressionFault : PlainModule → ℕ → PlainExpression → HandleFault → Type 0
IsGlobalExpressionFault m e x h = (named_missing (outside_functions m) x ≡ Some h) ⊎ (init_forward m e x ≡ Some h)

-- ---- functions

abbrev pub FunctionsOK : PlainModule → Type 0
FunctionsOK m = (i : ℕ) (f : PlainFunction) → slice_get m.functions i ≡ Some f → FunctionConditions m i f

-- the function at an index
abbrev pub IsFunctionFault : PlainModule → ℕ → PlainFunction → HandleFault → Type 0
IsFunctionFault m i f h = IsMissingFault m f h ⊎ (IsForwardOperand f.expressions h ⊎ IsForwardCallee i f h)

-- an entry point with its function
pub record EntryOK (m : PlainModule) (x : PlainEntry) : Type 0 where
  pub itself : entry_missing (outside_functions m) x ≡ None
  pub there : HandlesInRange m x.function
  pub operands : OperandsPrecede x.function.expressions

abbrev pub EntriesOK : PlainModule → Type 0
EntriesOK m = (k : ℕ) (x : PlainEntry) → slice_get m.entries k ≡ Some x → EntryOK m x

abbrev pub IsEntryFault : PlainModule → PlainEntry → HandleFault → Type 0
IsEntryFault m x h = (entry_missing (outside_functions m) x ≡ Some h) ⊎ (IsMissingFault m x.function h ⊎ IsForwardOperand x.function.expressions h)
