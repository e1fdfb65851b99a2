-- The references of a function: which part of it refers to what, and when it exists.
use Rattle.std.specs.Prelude.{◌≡◌, ℕ, ◌<◌, ◌≤◌, length, Some, Contains, slice_get}
use Rattle.ir_items.specs.IrBlocks.{Place, OccursAt, PlainStatement}
use Rattle.typing_layout.specs.IrTypes.{PlainExpression}
use Rattle.ir_items.specs.judged.Plain.{PlainArgument, PlainLocal, PlainFunction, PlainModule}
use Rattle.ir_items.specs.declared.functions.FunctionResult.{FunctionResult}
use Rattle.spec_expressions.specs.judged.ExpressionNames.{expression_operands, expression_item}
use Rattle.spec_expressions.specs.judged.StatementNames.{statement_operands, statement_result, statement_range, statement_callee}
use Rattle.spec_expressions.specs.judged.Kinds.{Emitted}
use Rattle.spec_expressions.specs.declared.target.Target.{Target}
use Rattle.spec_expressions.specs.declared.target.Target.TheVariants as target

-- A part of a function that may have references.
pub data Site : Type 0 where
  argument : ℕ → Site
  answer : Site
  local : ℕ → Site
  filters : Site
  computed : ℕ → Site
  done : Place → Site

-- What a part of a function refers to: an item, an expression of the function, or a range of its expressions.
pub data Named : Type 0 where
  item : Target → Named
  operand : ℕ → Named
  range : Emitted → Named

-- The part of the function refers to it.
pub data Names (f : PlainFunction) : Site → Named → Type 0 where
  argument_type : {i : ℕ} {a : PlainArgument} → slice_get f.arguments i ≡ Some a → Names f (argument i) (item (target.Type a.ty))
  answer_type : {r : FunctionResult} → f.result ≡ Some r → Names f answer (item (target.Type r.ty))
  local_type : {i : ℕ} {l : PlainLocal} → slice_get f.locals i ≡ Some l → Names f (local i) (item (target.Type l.ty))
  local_value : {i e : ℕ} {l : PlainLocal} → slice_get f.locals i ≡ Some l → l.init ≡ Some e → Names f (local i) (operand e)
  filter_leaf : {n : ℕ} → f.leaf ≡ Some n → Names f filters (item (target.DiagnosticFilter n))
  expression_names : {e : ℕ} {x : PlainExpression} {t : Target} → slice_get f.expressions e ≡ Some x → expression_item x ≡ Some t
      → Names f (computed e) (item t)
  expression_reads : {e o : ℕ} {x : PlainExpression} → slice_get f.expressions e ≡ Some x → Contains (expression_operands x) o
      → Names f (computed e) (operand o)
  statement_reads : {p : Place} {o : ℕ} {s : PlainStatement} → OccursAt f.body p s → Contains (statement_operands s) o → Names f (done p) (operand o)
  statement_answers : {p : Place} {e : ℕ} {s : PlainStatement} → OccursAt f.body p s → statement_result s ≡ Some e → Names f (done p) (operand e)
  statement_emits : {p : Place} {r : Emitted} {s : PlainStatement} → OccursAt f.body p s → statement_range s ≡ Some r → Names f (done p) (range r)
  statement_calls : {p : Place} {c : ℕ} {s : PlainStatement} → OccursAt f.body p s → statement_callee s ≡ Some c → Names f (done p) (item (target.Function c))

-- the item exists
abbrev pub ItemExists : PlainModule → PlainFunction → Target → Type 0
ItemExists m f (target.Type handle) = handle < length m.types
ItemExists m f (target.Constant handle) = handle < length m.constants
ItemExists m f (target.Override handle) = handle < length m.overrides
ItemExists m f (target.GlobalVariable handle) = handle < length m.globals
ItemExists m f (target.LocalVariable handle) = handle < length f.locals
ItemExists m f (target.Function handle) = handle < length m.functions
ItemExists m f (target.DiagnosticFilter handle) = handle < length m.filters

-- the item or expression exists, and a range is in bounds
abbrev pub IsThere : PlainModule → PlainFunction → Named → Type 0
IsThere m f (item t) = ItemExists m f t
IsThere m f (operand e) = e < length f.expressions
IsThere m f (range r) = (r.first ≤ r.end) × (r.end ≤ length f.expressions)
