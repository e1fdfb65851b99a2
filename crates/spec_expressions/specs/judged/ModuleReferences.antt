-- The references of a module: which part of it refers to what, and when it exists. The references inside a function are
-- defined with those of functions.
use Rattle.std.specs.Prelude.{◌≡◌, ℕ, ◌<◌, length, Some, Contains, slice_get}
use Rattle.typing_layout.specs.IrTypes.{PlainExpression, PlainType}
use Rattle.ir_items.specs.judged.GlobalPlain.{PlainConstant, PlainOverride, PlainGlobal, PlainFilterNode}
use Rattle.ir_items.specs.judged.Plain.{PlainEntry, PlainModule}
use Rattle.spec_expressions.specs.judged.ExpressionNames.{expression_operands, expression_item}
use Rattle.spec_expressions.specs.judged.ItemNames.{pending_of, special_types, mesh_types, mesh_expressions, entry_variables}
use Rattle.spec_expressions.specs.judged.References.{Named, item, operand, range}
use Rattle.spec_expressions.specs.declared.target.Target.{Target}
use Rattle.spec_expressions.specs.declared.target.Target.TheVariants as target
use Rattle.typing_layout.specs.TypingForms.{named_types}

-- A part of a module that may have references, functions excluded: an item of one of its arenas, its special types, or the
-- leaf of its filters. An entry point is taken without its function.
pub data ModulePart : Type 0 where
  a_type : ℕ → ModulePart
  special : ModulePart
  filter : ℕ → ModulePart
  leaf : ModulePart
  constant : ℕ → ModulePart
  override : ℕ → ModulePart
  expression : ℕ → ModulePart
  variable : ℕ → ModulePart
  entry : ℕ → ModulePart

-- The part of the module refers to it; an operand is a global expression.
pub data NamesIn (m : PlainModule) : ModulePart → Named → Type 0 where
  type_names : {i t : ℕ} {x : PlainType} → slice_get m.types i ≡ Some x → Contains (named_types x.inner) t → NamesIn m (a_type i) (item (target.Type t))
  type_counts : {i o : ℕ} {x : PlainType} → slice_get m.types i ≡ Some x → pending_of x.inner ≡ Some o → NamesIn m (a_type i) (item (target.Override o))
  special_names : {t : ℕ} → Contains (special_types m.special) t → NamesIn m special (item (target.Type t))
  filter_names : {i p : ℕ} {x : PlainFilterNode} → slice_get m.filters i ≡ Some x → x.parent ≡ Some p → NamesIn m (filter i) (item (target.DiagnosticFilter p))
  leaf_names : {n : ℕ} → m.leaf ≡ Some n → NamesIn m leaf (item (target.DiagnosticFilter n))
  constant_type : {i : ℕ} {x : PlainConstant} → slice_get m.constants i ≡ Some x → NamesIn m (constant i) (item (target.Type x.ty))
  constant_value : {i : ℕ} {x : PlainConstant} → slice_get m.constants i ≡ Some x → NamesIn m (constant i) (operand x.init)
  override_type : {i : ℕ} {x : PlainOverride} → slice_get m.overrides i ≡ Some x → NamesIn m (override i) (item (target.Type x.ty))
  override_value : {i e : ℕ} {x : PlainOverride} → slice_get m.overrides i ≡ Some x → x.init ≡ Some e → NamesIn m (override i) (operand e)
  expression_names : {i : ℕ} {x : PlainExpression} {t : Target} → slice_get m.global_expressions i ≡ Some x → expression_item x ≡ Some t
      → NamesIn m (expression i) (item t)
  expression_reads : {i o : ℕ} {x : PlainExpression} → slice_get m.global_expressions i ≡ Some x → Contains (expression_operands x) o
      → NamesIn m (expression i) (operand o)
  variable_type : {i : ℕ} {x : PlainGlobal} → slice_get m.globals i ≡ Some x → NamesIn m (variable i) (item (target.Type x.ty))
  variable_value : {i e : ℕ} {x : PlainGlobal} → slice_get m.globals i ≡ Some x → x.init ≡ Some e → NamesIn m (variable i) (operand e)
  entry_type : {k t : ℕ} {x : PlainEntry} → slice_get m.entries k ≡ Some x → Contains (mesh_types x.mesh) t → NamesIn m (entry k) (item (target.Type t))
  entry_expression : {k e : ℕ} {x : PlainEntry} → slice_get m.entries k ≡ Some x → Contains (mesh_expressions x.mesh) e → NamesIn m (entry k) (operand e)
  entry_variable : {k v : ℕ} {x : PlainEntry} → slice_get m.entries k ≡ Some x → Contains (entry_variables x) v
      → NamesIn m (entry k) (item (target.GlobalVariable v))

-- The item exists: outside functions there are no local variables, and no ranges.
abbrev pub IsThereIn : PlainModule → Named → Type 0
IsThereIn m (item (target.Type handle)) = handle < length m.types
IsThereIn m (item (target.Constant handle)) = handle < length m.constants
IsThereIn m (item (target.Override handle)) = handle < length m.overrides
IsThereIn m (item (target.GlobalVariable handle)) = handle < length m.globals
IsThereIn m (item (target.LocalVariable handle)) = ⊥
IsThereIn m (item (target.Function handle)) = handle < length m.functions
IsThereIn m (item (target.DiagnosticFilter handle)) = handle < length m.filters
IsThereIn m (operand e) = e < length m.global_expressions
IsThereIn m (range r) = ⊥
