-- Unary and binary operations.
use Rattle.std.specs.Prelude.{Result, Ok, Err}
use Rattle.ir_kinds.specs.declared.operators.BinaryOperator.{BinaryOperator}
use Rattle.ir_kinds.specs.declared.operators.BinaryOperator.TheVariants.{Add, Subtract, Multiply, Divide, Modulo, Equal, NotEqual, Less, LessEqual, Greater, GreaterEqual, And, ExclusiveOr, InclusiveOr, LogicalAnd, LogicalOr, ShiftLeft, ShiftRight}
use Rattle.ir_kinds.specs.declared.scalars.Scalar.{Scalar}
use Rattle.ir_kinds.specs.declared.scalars.VectorSize.{VectorSize}
use Rattle.ir_kinds.specs.judged.Scalars.{boolean}
use Rattle.typing_layout.specs.TypingForms.{Form}
use Rattle.typing_layout.specs.TypingForms.form as form
use Rattle.spec_expressions.specs.declared.faults.TypingFault.{TypingFault}
use Rattle.spec_expressions.specs.declared.faults.TypingFault.TheVariants.{IncompatibleOperands}

-- bools in the shape of a value: one for a scalar, one per component for a vector
abbrev pub truth_of : Form → Result Form TypingFault
truth_of t = elim t [ form.Scalar s ↦ Ok (form.Scalar boolean) | form.Vector n s ↦ Ok (form.Vector n boolean) | _ ↦ Err IncompatibleOperands ]

-- a vector times a vector is componentwise, and times a matrix it has one component per column
abbrev pub vector_times : (left right : Form) → Result Form TypingFault
vector_times left (form.Scalar s) = Ok left
vector_times left (form.Vector n s) = Ok left
vector_times left (form.Matrix columns rows s) = Ok (form.Vector columns s)
vector_times left _ = Err IncompatibleOperands

-- a matrix with this many rows of a scalar: times a vector, one component per row; times a matrix, the right one's columns
abbrev pub matrix_times : (left : Form) → (rows : VectorSize) → Scalar → (right : Form) → Result Form TypingFault
matrix_times left rows s (form.Scalar t) = Ok left
matrix_times left rows s (form.Vector n t) = Ok (form.Vector rows s)
matrix_times left rows s (form.Matrix columns lines t) = Ok (form.Matrix columns rows s)
matrix_times left rows s _ = Err IncompatibleOperands

-- anything else is multiplied by scalars only
abbrev pub other_times : (left right : Form) → Result Form TypingFault
other_times left o = elim o [ form.Scalar s ↦ Ok left | _ ↦ Err IncompatibleOperands ]

-- a scalar scales the other operand; products of vectors, of matrices and of both; nothing else
abbrev pub product : (left right : Form) → Result Form TypingFault
product (form.Scalar s) right = Ok right
product (form.Vector n s) right = vector_times (form.Vector n s) right
product (form.Matrix columns rows s) right = matrix_times (form.Matrix columns rows s) rows s right
product left right = other_times left right

-- comparisons give bools, products the product type, and all others the type of the left operand
abbrev pub binary_type : BinaryOperator → (left right : Form) → Result Form TypingFault
binary_type Add left right = Ok left
binary_type Subtract left right = Ok left
binary_type Multiply left right = product left right
binary_type Divide left right = Ok left
binary_type Modulo left right = Ok left
binary_type Equal left right = truth_of left
binary_type NotEqual left right = truth_of left
binary_type Less left right = truth_of left
binary_type LessEqual left right = truth_of left
binary_type Greater left right = truth_of left
binary_type GreaterEqual left right = truth_of left
binary_type And left right = Ok left
binary_type ExclusiveOr left right = Ok left
binary_type InclusiveOr left right = Ok left
binary_type LogicalAnd left right = Ok left
binary_type LogicalOr left right = Ok left
binary_type ShiftLeft left right = Ok left
binary_type ShiftRight left right = Ok left
