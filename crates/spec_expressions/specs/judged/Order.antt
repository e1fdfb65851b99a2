-- Which items must come after others, and when they do.
use Rattle.std.specs.Prelude.{◌≡◌, ℕ, ◌<◌, ◌≤◌, Some, Contains, slice_get}
use Rattle.typing_layout.specs.IrTypes.{PlainExpression, PlainType}
use Rattle.ir_items.specs.judged.GlobalPlain.{PlainConstant, PlainOverride, PlainFilterNode}
use Rattle.ir_items.specs.judged.Plain.{PlainFunction, PlainEntry, PlainModule}
use Rattle.spec_expressions.specs.judged.ExpressionNames.{expression_operands, expression_item}
use Rattle.spec_expressions.specs.judged.ItemNames.{pending_of}
use Rattle.spec_expressions.specs.judged.References.{Site, item, Names}
use Rattle.spec_expressions.specs.declared.item.ItemKind.{ItemKind}
use Rattle.spec_expressions.specs.declared.item.ItemKind.TheVariants as kind
use Rattle.spec_expressions.specs.declared.target.Target.TheVariants as target
use Rattle.typing_layout.specs.TypingForms.{named_types}

-- An item that must come after others of its arena: a type, a filter, a function, a global expression, an expression of a
-- function, or one of the function of an entry point.
pub data Ordered : Type 0 where
  a_type : ℕ → Ordered
  a_filter : ℕ → Ordered
  a_function : ℕ → Ordered
  an_expression : ℕ → Ordered
  of_function : (function expression : ℕ) → Ordered
  of_entry : (entry expression : ℕ) → Ordered

-- its kind, and its index
abbrev pub kind_of : Ordered → ItemKind
kind_of (a_type i) = kind.Type
kind_of (a_filter i) = kind.DiagnosticFilter
kind_of (a_function i) = kind.Function
kind_of (an_expression i) = kind.Expression
kind_of (of_function f i) = kind.Expression
kind_of (of_entry k i) = kind.Expression

abbrev pub place_of : Ordered → ℕ
place_of (a_type i) = i
place_of (a_filter i) = i
place_of (a_function i) = i
place_of (an_expression i) = i
place_of (of_function f i) = i
place_of (of_entry k i) = i

-- The expression refers to the type: directly, or as the type of a constant or override that it refers to.
pub data NamesType (m : PlainModule) (x : PlainExpression) : ℕ → Type 0 where
  by_itself : {t : ℕ} → expression_item x ≡ Some (target.Type t) → NamesType m x t
  by_constant : {c : ℕ} {constant : PlainConstant} → expression_item x ≡ Some (target.Constant c) → slice_get m.constants c ≡ Some constant
      → NamesType m x constant.ty
  by_override : {o : ℕ} {override : PlainOverride} → expression_item x ≡ Some (target.Override o) → slice_get m.overrides o ≡ Some override
      → NamesType m x override.ty

-- The first item depends on the second. A type whose array size is an override depends on the override's type
-- and on each type that the global expressions up to the override's initializer refer to.
pub data DependsOn (m : PlainModule) : Ordered → Ordered → Type 0 where
  type_on_named : {i t : ℕ} {x : PlainType} → slice_get m.types i ≡ Some x → Contains (named_types x.inner) t → DependsOn m (a_type i) (a_type t)
  type_on_override : {i o : ℕ} {x : PlainType} {override : PlainOverride} → slice_get m.types i ≡ Some x → pending_of x.inner ≡ Some o
      → slice_get m.overrides o ≡ Some override → DependsOn m (a_type i) (a_type override.ty)
  type_on_expression : {i o init e t : ℕ} {x : PlainType} {override : PlainOverride} {y : PlainExpression} → slice_get m.types i ≡ Some x
      → pending_of x.inner ≡ Some o → slice_get m.overrides o ≡ Some override → override.init ≡ Some init
      → e ≤ init → slice_get m.global_expressions e ≡ Some y → NamesType m y t → DependsOn m (a_type i) (a_type t)
  filter_on_parent : {i p : ℕ} {x : PlainFilterNode} → slice_get m.filters i ≡ Some x → x.parent ≡ Some p → DependsOn m (a_filter i) (a_filter p)
  expression_on_operand : {e o : ℕ} {x : PlainExpression} → slice_get m.global_expressions e ≡ Some x → Contains (expression_operands x) o
      → DependsOn m (an_expression e) (an_expression o)
  expression_on_constant : {e c : ℕ} {x : PlainExpression} {constant : PlainConstant} → slice_get m.global_expressions e ≡ Some x
      → expression_item x ≡ Some (target.Constant c) → slice_get m.constants c ≡ Some constant → DependsOn m (an_expression e) (an_expression constant.init)
  expression_on_override : {e o init : ℕ} {x : PlainExpression} {override : PlainOverride} → slice_get m.global_expressions e ≡ Some x
      → expression_item x ≡ Some (target.Override o)
      → slice_get m.overrides o ≡ Some override → override.init ≡ Some init → DependsOn m (an_expression e) (an_expression init)
  function_on_callee : {i c : ℕ} {f : PlainFunction} {site : Site} → slice_get m.functions i ≡ Some f → Names f site (item (target.Function c))
      → DependsOn m (a_function i) (a_function c)
  inside_function : {i e o : ℕ} {f : PlainFunction} {x : PlainExpression} → slice_get m.functions i ≡ Some f → slice_get f.expressions e ≡ Some x
      → Contains (expression_operands x) o → DependsOn m (of_function i e) (of_function i o)
  inside_entry : {k e o : ℕ} {entry : PlainEntry} {x : PlainExpression} → slice_get m.entries k ≡ Some entry → slice_get entry.function.expressions e ≡ Some x
      → Contains (expression_operands x) o → DependsOn m (of_entry k e) (of_entry k o)

-- If one item depends on another, both are in the same arena, and the dependency comes first.
abbrev pub IsBefore : Ordered → Ordered → Type 0
IsBefore first second = place_of first < place_of second
