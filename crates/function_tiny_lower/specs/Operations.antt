-- Which operations fit the types of their operands.
use Rattle.std.specs.Prelude.{ℕ, Bool as Truth, true, false, ◌&&◌, List, Option, Some, None, option_and_then, slice_get}
use Rattle.ir_types.specs.judged.ExpressionPlain.{PlainExpression}
use Rattle.ir_kinds.specs.declared.operators.BinaryOperator.{BinaryOperator}
use Rattle.ir_kinds.specs.declared.operators.BinaryOperator.TheVariants as binary
use Rattle.ir_kinds.specs.declared.operators.UnaryOperator.{UnaryOperator}
use Rattle.ir_kinds.specs.declared.operators.UnaryOperator.TheVariants as unary
use Rattle.function_tiny_lower.specs.Known.{known_of}
use Rattle.function_tiny_lower.specs.Values.{type_of_form}
use Rattle.function_tiny_lower.specs.declared.known.Known.{Known}
use Rattle.function_tiny_lower.specs.declared.known.Known.TheVariants as known
use Rattle.function_tiny_lower.specs.declared.value_type.ValueType.{ValueType}
use Rattle.function_tiny_lower.specs.declared.value_type.ValueType.TheVariants.{U32, Bool, F32}
use Rattle.typing_forms.specs.declared.form.Form.{Form}

-- ---- kinds of values

abbrev pub is_word : ValueType → Truth
is_word U32 = true
is_word Bool = false
is_word F32 = false

abbrev pub is_truth : ValueType → Truth
is_truth U32 = false
is_truth Bool = true
is_truth F32 = false

abbrev pub is_float : ValueType → Truth
is_float U32 = false
is_float Bool = false
is_float F32 = true

abbrev pub is_number : ValueType → Truth
is_number U32 = true
is_number Bool = false
is_number F32 = true

abbrev pub is_same : ValueType → ValueType → Truth
is_same U32 right = is_word right
is_same Bool right = is_truth right
is_same F32 right = is_float right

-- ---- operators

-- a value of this type is a valid operand
abbrev pub takes_one : UnaryOperator → ValueType → Truth
takes_one unary.Negate t = is_float t
takes_one unary.LogicalNot t = is_truth t
takes_one unary.BitwiseNot t = is_word t

-- two values of this type are valid operands
abbrev pub takes_two : BinaryOperator → ValueType → Truth
takes_two binary.Add t = is_number t
takes_two binary.Subtract t = is_number t
takes_two binary.Multiply t = is_number t
takes_two binary.Divide t = is_number t
takes_two binary.Modulo t = is_number t
takes_two binary.Equal t = true
takes_two binary.NotEqual t = true
takes_two binary.Less t = is_number t
takes_two binary.LessEqual t = is_number t
takes_two binary.Greater t = is_number t
takes_two binary.GreaterEqual t = is_number t
takes_two binary.And t = is_word t
takes_two binary.ExclusiveOr t = is_word t
takes_two binary.InclusiveOr t = is_word t
takes_two binary.LogicalAnd t = is_truth t
takes_two binary.LogicalOr t = is_truth t
takes_two binary.ShiftLeft t = is_word t
takes_two binary.ShiftRight t = is_word t

-- ---- expressions

-- the type of an operand, given the forms of types
abbrev pub type_given : List Form → ℕ → Option ValueType
type_given forms operand = option_and_then type_of_form (slice_get forms operand)

abbrev pub unary_fits : UnaryOperator → Option ValueType → Truth
unary_fits op (Some t) = takes_one op t
unary_fits op None = false

-- both have one type
abbrev pub are_same : Option ValueType → Option ValueType → Truth
are_same (Some left) (Some right) = is_same left right
are_same (Some left) None = false
are_same None right = false

abbrev pub left_fits : BinaryOperator → Option ValueType → Truth
left_fits op (Some t) = takes_two op t
left_fits op None = false

abbrev pub is_condition : Option ValueType → Truth
is_condition (Some t) = is_truth t
is_condition None = false

-- the expression is supported, and if it is an operation, it fits its operands
abbrev pub fits_in : List Form → Option Known → Truth
fits_in forms None = false
fits_in forms (Some (known.Literal value)) = true
fits_in forms (Some (known.ZeroValue type)) = true
fits_in forms (Some (known.FunctionArgument place)) = true
fits_in forms (Some (known.Unary op expr)) = unary_fits op (type_given forms expr)
fits_in forms (Some (known.Binary op left right)) = left_fits op (type_given forms left) && are_same (type_given forms left) (type_given forms right)
fits_in forms (Some (known.Select condition accept reject)) = is_condition (type_given forms condition) && are_same (type_given forms accept) (type_given forms reject)
fits_in forms (Some (known.CallResult function)) = true

abbrev pub fits : List Form → PlainExpression → Truth
fits forms expression = fits_in forms (known_of expression)
