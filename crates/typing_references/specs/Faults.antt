-- Handle errors of a function, computed step by step; `spec_expressions` defines when handles are valid.
use Rattle.std.specs.Prelude.{◌≡◌, ℕ, ◌<◌, List, length, ◌&&◌, Contains, slice_get, nat_lt, nat_le, if◌then◌else◌, Option, Some, None, option_map, option_and_then}
use Rattle.std.specs.Option.{option_or}
use Rattle.ir_blocks.specs.judged.Plain.{PlainStatement}
use Rattle.ir_types.specs.judged.ExpressionPlain.{PlainExpression}
use Rattle.ir_items.specs.judged.GlobalPlain.{PlainFilterNode}
use Rattle.ir_items.specs.judged.Plain.{PlainArgument, PlainLocal, PlainFunction, PlainModule}
use Rattle.ir_items.specs.declared.functions.FunctionResult.{FunctionResult}
use Rattle.typing_references.specs.First.{first_past, first_of, first_in}
use Rattle.typing_references.specs.declared.bounds.Bounds.{Bounds}
use Rattle.typing_references.specs.declared.fault.HandleFault.{HandleFault}
use Rattle.typing_references.specs.declared.fault.HandleFault.TheVariants as fault
use Rattle.spec_expressions.specs.judged.ExpressionNames.{expression_operands, expression_item}
use Rattle.spec_expressions.specs.judged.ModuleHandles.{named_at}
use Rattle.spec_expressions.specs.judged.References.{Site, Named, item, range, Names, IsThere}
use Rattle.spec_expressions.specs.judged.StatementNames.{statement_operands, statement_result, statement_range, statement_callee}
use Rattle.spec_expressions.specs.judged.Kinds.{Emitted}
use Rattle.spec_expressions.specs.declared.item.ItemKind.{ItemKind}
use Rattle.spec_expressions.specs.declared.item.ItemKind.TheVariants as kind
use Rattle.spec_expressions.specs.declared.target.Target.{Target}
use Rattle.spec_expressions.specs.declared.target.Target.TheVariants as target

-- ---- items that don't exist

-- the number of items of each kind that a function may refer to
abbrev pub bounds_of : PlainModule → PlainFunction → Bounds
bounds_of m f = record {
  types = length m.types;
  constants = length m.constants;
  overrides = length m.overrides;
  global_variables = length m.globals;
  local_variables = length f.locals;
  functions = length m.functions;
  filters = length m.filters;
  expressions = length f.expressions;
}

-- the number that may be referred to outside of functions
abbrev pub outside_functions : PlainModule → Bounds
outside_functions m = record {
  types = length m.types;
  constants = length m.constants;
  overrides = length m.overrides;
  global_variables = length m.globals;
  local_variables = 0;
  functions = length m.functions;
  filters = length m.filters;
  expressions = length m.global_expressions;
}

abbrev pub missing : ItemKind → (there place : ℕ) → Option HandleFault
missing k there place = if nat_lt place there then None else Some (fault.Missing k place)

abbrev pub item_missing : Bounds → Target → Option HandleFault
item_missing b (target.Type handle) = missing kind.Type b.types handle
item_missing b (target.Constant handle) = missing kind.Constant b.constants handle
item_missing b (target.Override handle) = missing kind.Override b.overrides handle
item_missing b (target.GlobalVariable handle) = missing kind.GlobalVariable b.global_variables handle
item_missing b (target.LocalVariable handle) = missing kind.LocalVariable b.local_variables handle
item_missing b (target.Function handle) = missing kind.Function b.functions handle
item_missing b (target.DiagnosticFilter handle) = missing kind.DiagnosticFilter b.filters handle

abbrev pub absent : ℕ → HandleFault
absent operand = fault.Missing kind.Expression operand

abbrev pub range_out : ℕ → Emitted → Option HandleFault
range_out there r = if nat_le r.first r.end && nat_le r.end there then None else Some (fault.Range r.first r.end)

abbrev pub expression_missing : Bounds → PlainExpression → Option HandleFault
expression_missing b x = option_or (option_and_then (item_missing b) (expression_item x)) (option_map absent (first_past b.expressions (expression_operands x)))

abbrev pub answer_missing : Bounds → PlainStatement → Option HandleFault
answer_missing b s = option_and_then (missing kind.Expression b.expressions) (statement_result s)

abbrev pub statement_missing : Bounds → PlainStatement → Option HandleFault
statement_missing b s =
    option_or (option_map absent (first_past b.expressions (statement_operands s))) (option_or (answer_missing b s) (option_or (option_and_then (range_out b.expressions) (statement_range s))
    (option_and_then (missing kind.Function b.functions) (statement_callee s))))

abbrev pub argument_missing : Bounds → PlainArgument → Option HandleFault
argument_missing b a = missing kind.Type b.types a.ty

abbrev pub local_missing : Bounds → PlainLocal → Option HandleFault
local_missing b l = option_or (missing kind.Type b.types l.ty) (option_and_then (missing kind.Expression b.expressions) l.init)

abbrev pub signature_missing : Bounds → PlainFunction → Option HandleFault
signature_missing b f =
    option_or (first_of (argument_missing b) f.arguments) (option_or (option_and_then (λ (r : FunctionResult). missing kind.Type b.types r.ty) f.result)
    (option_and_then (missing kind.DiagnosticFilter b.filters) f.leaf))

abbrev pub function_missing : Bounds → PlainFunction → Option HandleFault
function_missing b f =
    option_or (signature_missing b f) (option_or (first_of (local_missing b) f.locals) (option_or (first_of (expression_missing b) f.expressions) (first_in (statement_missing b) f.body)))

-- ---- forward dependencies

abbrev pub operand_forward : ℕ → PlainExpression → Option HandleFault
operand_forward e x = option_map (λ o. fault.Forward kind.Expression e o) (first_past e (expression_operands x))

abbrev pub callee_forward : ℕ → ℕ → Option HandleFault
callee_forward caller callee = if nat_lt callee caller then None else Some (fault.Forward kind.Function caller callee)

-- the function that an item is, if it is one
abbrev pub function_of : Target → Option ℕ
function_of (target.Type handle) = None
function_of (target.Constant handle) = None
function_of (target.Override handle) = None
function_of (target.GlobalVariable handle) = None
function_of (target.LocalVariable handle) = None
function_of (target.Function handle) = Some handle
function_of (target.DiagnosticFilter handle) = None

abbrev pub expression_forward : ℕ → PlainExpression → Option HandleFault
expression_forward caller x = option_and_then (callee_forward caller) (option_and_then function_of (expression_item x))

abbrev pub statement_forward : ℕ → PlainStatement → Option HandleFault
statement_forward caller s = option_and_then (callee_forward caller) (statement_callee s)

abbrev pub callees_forward : ℕ → PlainFunction → Option HandleFault
callees_forward caller f = option_or (first_of (expression_forward caller) f.expressions) (first_in (statement_forward caller) f.body)

abbrev pub parent_forward : ℕ → PlainFilterNode → Option HandleFault
parent_forward n x = option_and_then (λ parent. if nat_lt parent n then None else Some (fault.Forward kind.DiagnosticFilter n parent)) x.parent

-- ---- the meaning of the faults

-- A part of the function refers to it, and it does not exist.
pub record IsAbsentIn (m : PlainModule) (f : PlainFunction) (named : Named) : Type 0 where
  pub site : Site
  pub names : Names f site named
  pub absent : ¬ IsThere m f named

-- something at this index, of this kind
pub record IsMissingIn (m : PlainModule) (f : PlainFunction) (k : ItemKind) (place : ℕ) : Type 0 where
  pub named : Named
  pub absent : IsAbsentIn m f named
  pub at : named_at named ≡ Some (k, place)

-- the fault of something that does not exist
abbrev pub IsMissingFault : PlainModule → PlainFunction → HandleFault → Type 0
IsMissingFault m f (fault.Missing k place) = IsMissingIn m f k place
IsMissingFault m f (fault.Forward k place depends_on) = ⊥
IsMissingFault m f (fault.Range first end) = IsAbsentIn m f (range (record { first = first; end = end }))

-- the fault of an operand that doesn't come before its expression
abbrev pub IsForwardOperand : List PlainExpression → HandleFault → Type 0
IsForwardOperand xs (fault.Missing k place) = ⊥
IsForwardOperand xs (fault.Forward k place depends_on) =
    (k ≡ kind.Expression) × ((x : PlainExpression) × (slice_get xs place ≡ Some x) × Contains (expression_operands x) depends_on × ¬ (depends_on < place))
IsForwardOperand xs (fault.Range first end) = ⊥

-- the fault of a function that doesn't come before the one that refers to it
abbrev pub IsForwardCallee : (caller : ℕ) → PlainFunction → HandleFault → Type 0
IsForwardCallee caller f (fault.Missing k place) = ⊥
IsForwardCallee caller f (fault.Forward k place depends_on) =
    (k ≡ kind.Function) × (place ≡ caller) × ((site : Site) × Names f site (item (target.Function depends_on)) × ¬ (depends_on < caller))
IsForwardCallee caller f (fault.Range first end) = ⊥

-- the fault of a parent that doesn't come before its filter
abbrev pub IsForwardParent : List PlainFilterNode → HandleFault → Type 0
IsForwardParent nodes (fault.Missing k place) = ⊥
IsForwardParent nodes (fault.Forward k place depends_on) =
    (k ≡ kind.DiagnosticFilter) × ((x : PlainFilterNode) × (slice_get nodes place ≡ Some x) × (x.parent ≡ Some depends_on) × ¬ (depends_on < place))
IsForwardParent nodes (fault.Range first end) = ⊥
