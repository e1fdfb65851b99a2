-- The types of expressions.
use Rattle.std.specs.Prelude.{◌≡◌, ℕ, List, [], ◌∷◌, ◌++◌, Option, Some, None, option_map, option_and_then, slice_get}
use Rattle.ir_types.specs.judged.ExpressionPlain.{PlainExpression}
use Rattle.ir_items.specs.judged.Plain.{PlainArgument, PlainFunction, PlainModule}
use Rattle.ir_items.specs.declared.functions.FunctionResult.{FunctionResult}
use Rattle.ir_kinds.specs.declared.operators.BinaryOperator.{BinaryOperator}
use Rattle.ir_kinds.specs.declared.operators.BinaryOperator.TheVariants as binary
use Rattle.ir_kinds.specs.declared.values.Literal.{Literal}
use Rattle.ir_kinds.specs.declared.values.Literal.TheVariants as literal
use Rattle.ir_types.specs.judged.Plain.{PlainType}
use Rattle.function_tiny_lower.specs.Known.{known_of}
use Rattle.function_tiny_lower.specs.Values.{type_of_inner, form_of}
use Rattle.function_tiny_lower.specs.declared.known.Known.{Known}
use Rattle.function_tiny_lower.specs.declared.known.Known.TheVariants as known
use Rattle.function_tiny_lower.specs.declared.value_type.ValueType.{ValueType}
use Rattle.function_tiny_lower.specs.declared.value_type.ValueType.TheVariants.{U32, Bool, F32}
use Rattle.typing_forms.specs.judged.Resolutions.{inner_at}
use Rattle.typing_forms.specs.declared.form.Form.{Form}

-- ---- literals, zero values and arguments

abbrev pub literal_type : Literal → Option ValueType
literal_type (literal.U32 value) = Some U32
literal_type (literal.Bool value) = Some Bool
literal_type (literal.F32 value) = Some F32
literal_type _ = None

-- of the type at a handle
abbrev pub type_at : List PlainType → ℕ → Option ValueType
type_at types handle = option_and_then type_of_inner (inner_at types handle)

abbrev pub argument_type : List PlainType → Option PlainArgument → Option ValueType
argument_type types argument = option_and_then (λ (a : PlainArgument). type_at types a.ty) argument

-- the declared result of an existing function
abbrev pub answer_of : Option PlainFunction → Option FunctionResult
answer_of (Some function) = function.result
answer_of None = None

abbrev pub answer_type : List PlainType → Option PlainFunction → Option ValueType
answer_type types function = option_and_then (λ (r : FunctionResult). type_at types r.ty) (answer_of function)

-- ---- operations

-- of an operation with a left operand of this type
abbrev pub binary_type : BinaryOperator → ValueType → ValueType
binary_type binary.Add left = left
binary_type binary.Subtract left = left
binary_type binary.Multiply left = left
binary_type binary.Divide left = left
binary_type binary.Modulo left = left
binary_type binary.Equal left = Bool
binary_type binary.NotEqual left = Bool
binary_type binary.Less left = Bool
binary_type binary.LessEqual left = Bool
binary_type binary.Greater left = Bool
binary_type binary.GreaterEqual left = Bool
binary_type binary.And left = left
binary_type binary.ExclusiveOr left = left
binary_type binary.InclusiveOr left = left
binary_type binary.LogicalAnd left = Bool
binary_type binary.LogicalOr left = Bool
binary_type binary.ShiftLeft left = left
binary_type binary.ShiftRight left = left

-- ---- expressions

-- the type of an earlier expression, if it has one
abbrev pub earlier : List (Option ValueType) → ℕ → Option ValueType
earlier past operand = option_and_then (λ t. t) (slice_get past operand)

-- the type of an expression, given those of earlier ones
abbrev pub type_in : PlainModule → PlainFunction → List (Option ValueType) → Known → Option ValueType
type_in m f past (known.Literal value) = literal_type value
type_in m f past (known.ZeroValue type) = type_at m.types type
type_in m f past (known.FunctionArgument place) = argument_type m.types (slice_get f.arguments place)
type_in m f past (known.Unary op expr) = earlier past expr
type_in m f past (known.Binary op left right) = option_map (binary_type op) (earlier past left)
type_in m f past (known.Select condition accept reject) = earlier past accept
type_in m f past (known.CallResult function) = answer_type m.types (slice_get m.functions function)

abbrev pub expression_type : PlainModule → PlainFunction → List (Option ValueType) → PlainExpression → Option ValueType
expression_type m f past expression = option_and_then (type_in m f past) (known_of expression)

-- these types, and then those of these expressions
abbrev pub types_after : PlainModule → PlainFunction → List (Option ValueType) → List PlainExpression → List (Option ValueType)
types_after m f past [] = past
types_after m f past (expression ∷ rest) = types_after m f (past ++ expression_type m f past expression ∷ []) rest

-- the type of each expression of a function, if it has one
abbrev pub types_of : PlainModule → PlainFunction → List (Option ValueType)
types_of m f = types_after m f [] f.expressions

-- the expression has a type of this form
abbrev pub HasForm : PlainModule → PlainFunction → ℕ → Form → Type 0
HasForm m f e t = option_map form_of (earlier (types_of m f) e) ≡ Some t

-- it exists, and has no type
abbrev pub IsUntyped : PlainModule → PlainFunction → ℕ → Type 0
IsUntyped m f e = slice_get (types_of m f) e ≡ Some None
