-- The operands that unary and binary operations allow.
use Rattle.std.specs.Prelude.{◌≡◌, IsSomeAnd}
use Rattle.ir_kinds.specs.judged.Scalars.{unsigned}
use Rattle.ir_kinds.specs.declared.operators.BinaryOperator.{BinaryOperator}
use Rattle.ir_kinds.specs.declared.operators.BinaryOperator.TheVariants.{Add, Subtract, Multiply, Divide, Modulo, Equal, NotEqual, Less, LessEqual, Greater, GreaterEqual, And, ExclusiveOr, InclusiveOr, LogicalAnd, LogicalOr, ShiftLeft, ShiftRight}
use Rattle.ir_kinds.specs.declared.operators.UnaryOperator.{UnaryOperator}
use Rattle.ir_kinds.specs.declared.operators.UnaryOperator.TheVariants.{Negate, LogicalNot, BitwiseNot}
use Rattle.ir_kinds.specs.declared.scalars.ScalarKind.{ScalarKind}
use Rattle.ir_kinds.specs.declared.scalars.ScalarKind.TheVariants as kind
use Rattle.spec_expressions.specs.TypingForms.{Form}
use Rattle.spec_statements.specs.judged.Shapes.{shaped_of, form_of_shape, AnyShape, IsScalarShape, IsScalarOrVector, IsInteger, IsNumeric, IsBool, IsMadeOf, AnyKind}
use Rattle.spec_statements.specs.declared.shapes.Shape.{Shape}
use Rattle.spec_statements.specs.declared.shapes.Shape.TheVariants as shape

-- ---- unary operations

-- negation is for signed integers and floats
abbrev pub IsSigned : ScalarKind → Type 0
IsSigned k = elim k [ kind.Sint ↦ Unit {0} | kind.Float ↦ Unit {0} | _ ↦ ⊥ ]

-- the scalars that a unary operation allows
abbrev pub TakesKind : UnaryOperator → ScalarKind → Type 0
TakesKind Negate k = IsSigned k
TakesKind LogicalNot k = IsBool k
TakesKind BitwiseNot k = IsInteger k

-- the operand consists of such scalars, in any shape
abbrev pub UnaryOK : UnaryOperator → (of : Form) → Type 0
UnaryOK op of = IsMadeOf AnyShape (TakesKind op) of

-- ---- binary operations

-- bools and integers
abbrev pub IsIntegerOrBool : ScalarKind → Type 0
IsIntegerOrBool kind.Sint = Unit {0}
IsIntegerOrBool kind.Uint = Unit {0}
IsIntegerOrBool kind.Bool = Unit {0}
IsIntegerOrBool _ = ⊥

-- numeric scalars and vectors, and any matrix
abbrev pub IsAdded : Shape → ScalarKind → Type 0
IsAdded shape.Scalar k = IsNumeric k
IsAdded (shape.Vector n) k = IsNumeric k
IsAdded (shape.Matrix columns rows) k = Unit {0}
IsAdded (shape.CooperativeMatrix columns rows role) k = Unit {0}

abbrev pub SumOK : (left right : Form) → Type 0
SumOK left right = (left ≡ right) × IsSomeAnd (shaped_of left) (λ x. IsAdded x.shape x.scalar.kind)

-- A scalar scales anything. Two vectors have the same size; a vector matches the columns of a matrix to its left, and the
-- rows of one to its right; and of two matrices the left one has as many columns as the right one has rows.
abbrev pub AreMultiplied : (left right : Shape) → Type 0
AreMultiplied shape.Scalar right = Unit {0}
AreMultiplied (shape.Vector n) shape.Scalar = Unit {0}
AreMultiplied (shape.Vector n) (shape.Vector m) = n ≡ m
AreMultiplied (shape.Vector n) (shape.Matrix columns rows) = n ≡ rows
AreMultiplied (shape.Matrix columns rows) shape.Scalar = Unit {0}
AreMultiplied (shape.Matrix columns rows) (shape.Vector n) = columns ≡ n
AreMultiplied (shape.Matrix columns rows) (shape.Matrix more lines) = columns ≡ lines
AreMultiplied (shape.CooperativeMatrix columns rows role) shape.Scalar = Unit {0}
AreMultiplied _ _ = ⊥

-- two operands of the same scalar, in shapes that can be multiplied
abbrev pub ProductOK : (left right : Form) → Type 0
ProductOK left right = IsSomeAnd (shaped_of left) (λ x. IsSomeAnd (shaped_of right) (λ y. (x.scalar ≡ y.scalar) × AreMultiplied x.shape y.shape))

-- two operands of the same type, with such scalars in such a shape
abbrev pub AreAlike : (Shape → Type 0) → (ScalarKind → Type 0) → (left right : Form) → Type 0
AreAlike In Of left right = (left ≡ right) × IsMadeOf In Of left

-- integers of any shape, and shift amounts of the same shape of 32-bit unsigned integers
abbrev pub ShiftOK : (left right : Form) → Type 0
ShiftOK left right = IsSomeAnd (shaped_of left) (λ x. IsInteger x.scalar.kind × (right ≡ form_of_shape x.shape (unsigned 4)))

abbrev pub BinaryOK : BinaryOperator → (left right : Form) → Type 0
BinaryOK Add left right = SumOK left right
BinaryOK Subtract left right = SumOK left right
BinaryOK Multiply left right = ProductOK left right
BinaryOK Divide left right = AreAlike IsScalarOrVector IsNumeric left right
BinaryOK Modulo left right = AreAlike IsScalarOrVector IsNumeric left right
BinaryOK Equal left right = AreAlike IsScalarOrVector AnyKind left right
BinaryOK NotEqual left right = AreAlike IsScalarOrVector AnyKind left right
BinaryOK Less left right = AreAlike IsScalarOrVector IsNumeric left right
BinaryOK LessEqual left right = AreAlike IsScalarOrVector IsNumeric left right
BinaryOK Greater left right = AreAlike IsScalarOrVector IsNumeric left right
BinaryOK GreaterEqual left right = AreAlike IsScalarOrVector IsNumeric left right
BinaryOK And left right = AreAlike AnyShape IsIntegerOrBool left right
BinaryOK ExclusiveOr left right = AreAlike AnyShape IsInteger left right
BinaryOK InclusiveOr left right = AreAlike AnyShape IsIntegerOrBool left right
BinaryOK LogicalAnd left right = AreAlike IsScalarShape IsBool left right
BinaryOK LogicalOr left right = AreAlike IsScalarShape IsBool left right
BinaryOK ShiftLeft left right = ShiftOK left right
BinaryOK ShiftRight left right = ShiftOK left right
