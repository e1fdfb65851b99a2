-- The broken rules of binary operations.
use Rattle.std.specs.Prelude.{◌≡◌, ◌≢◌, None, IsSomeAnd}
use Rattle.ir_kinds.specs.judged.Scalars.{unsigned}
use Rattle.ir_kinds.specs.declared.operators.BinaryOperator.{BinaryOperator}
use Rattle.ir_kinds.specs.declared.operators.BinaryOperator.TheVariants.{Add, Subtract, Multiply, Divide, Modulo, Equal, NotEqual, Less, LessEqual, Greater, GreaterEqual, And, ExclusiveOr, InclusiveOr, LogicalAnd, LogicalOr, ShiftLeft, ShiftRight}
use Rattle.ir_kinds.specs.declared.scalars.ScalarKind.{ScalarKind}
use Rattle.typing_forms.specs.declared.form.Form.{Form}
use Rattle.spec_statements.specs.judged.Operators.{IsAdded, IsIntegerOrBool, AreMultiplied}
use Rattle.spec_statements.specs.judged.Shapes.{shaped_of, form_of_shape, IsMadeOf, AnyShape, IsScalarShape, IsScalarOrVector, IsInteger, IsNumeric, IsBool}
use Rattle.spec_statements.specs.declared.shapes.Shape.{Shape}
use Rattle.check_causes.specs.declared.operators.AlikeCause.{AlikeCause}
use Rattle.check_causes.specs.declared.operators.AlikeCause.TheVariants as alike
use Rattle.check_causes.specs.declared.operators.ProductCause.{ProductCause}
use Rattle.check_causes.specs.declared.operators.ProductCause.TheVariants as product
use Rattle.check_causes.specs.declared.operators.ShiftCause.{ShiftCause}
use Rattle.check_causes.specs.declared.operators.ShiftCause.TheVariants as shift
use Rattle.check_causes.specs.declared.operators.BinaryCause.{BinaryCause}
use Rattle.check_causes.specs.declared.operators.BinaryCause.TheVariants as binary

-- ---- equal operand types

-- what the operation accepts, by shape and scalar kind; products and shifts have their own rules
abbrev pub Takes : BinaryOperator → Shape → ScalarKind → Type 0
Takes Add s k = IsAdded s k
Takes Subtract s k = IsAdded s k
Takes Multiply s k = ⊥
Takes Divide s k = IsScalarOrVector s × IsNumeric k
Takes Modulo s k = IsScalarOrVector s × IsNumeric k
Takes Equal s k = IsScalarOrVector s
Takes NotEqual s k = IsScalarOrVector s
Takes Less s k = IsScalarOrVector s × IsNumeric k
Takes LessEqual s k = IsScalarOrVector s × IsNumeric k
Takes Greater s k = IsScalarOrVector s × IsNumeric k
Takes GreaterEqual s k = IsScalarOrVector s × IsNumeric k
Takes And s k = IsIntegerOrBool k
Takes ExclusiveOr s k = IsInteger k
Takes InclusiveOr s k = IsIntegerOrBool k
Takes LogicalAnd s k = IsScalarShape s × IsBool k
Takes LogicalOr s k = IsScalarShape s × IsBool k
Takes ShiftLeft s k = ⊥
Takes ShiftRight s k = ⊥

abbrev pub TakesForm : BinaryOperator → Form → Type 0
TakesForm op of = IsSomeAnd (shaped_of of) (λ x. Takes op x.shape x.scalar.kind)

abbrev pub AlikeOK : BinaryOperator → (left right : Form) → Type 0
AlikeOK op left right = (left ≡ right) × TakesForm op left

abbrev pub BrokenAlike : BinaryOperator → (left right : Form) → AlikeCause → Type 0
BrokenAlike op left right (alike.Differ one other) = (one ≡ left) × (other ≡ right) × (left ≢ right)
BrokenAlike op left right (alike.Type given) = (given ≡ left) × ¬ TakesForm op left

-- ---- products and shifts

abbrev pub BrokenProduct : (left right : Form) → ProductCause → Type 0
BrokenProduct left right (product.Left given) = (given ≡ left) × (shaped_of left ≡ None)
BrokenProduct left right (product.Right given) = (given ≡ right) × (shaped_of right ≡ None)
BrokenProduct left right (product.Scalars one other) = IsSomeAnd (shaped_of left) (λ x. IsSomeAnd (shaped_of right) (λ y. (one ≡ x.scalar) × (other ≡ y.scalar) × (x.scalar ≢ y.scalar)))
BrokenProduct left right (product.Shapes one other) = (one ≡ left) × (other ≡ right) × IsSomeAnd (shaped_of left) (λ x. IsSomeAnd (shaped_of right) (λ y. ¬ AreMultiplied x.shape y.shape))

abbrev pub BrokenShift : (left right : Form) → ShiftCause → Type 0
BrokenShift left right (shift.NoInteger given) = (given ≡ left) × ¬ IsMadeOf AnyShape IsInteger left
BrokenShift left right (shift.Amount given wanted) = (given ≡ right) × IsSomeAnd (shaped_of left) (λ x. wanted ≡ form_of_shape x.shape (unsigned 4)) × (right ≢ wanted)

-- ---- binary operations

abbrev pub IsProduct : BinaryOperator → Type 0
IsProduct op = elim op [ Multiply ↦ Unit {0} | _ ↦ ⊥ ]

abbrev pub IsShift : BinaryOperator → Type 0
IsShift op = elim op [ ShiftLeft ↦ Unit {0} | ShiftRight ↦ Unit {0} | _ ↦ ⊥ ]

-- the rule of the operation's family is broken
abbrev pub BrokenBinary : BinaryOperator → (left right : Form) → BinaryCause → Type 0
BrokenBinary op left right (binary.Alike cause) = BrokenAlike op left right cause × ¬ IsProduct op × ¬ IsShift op
BrokenBinary op left right (binary.Product cause) = BrokenProduct left right cause × IsProduct op
BrokenBinary op left right (binary.Shift cause) = BrokenShift left right cause × IsShift op
