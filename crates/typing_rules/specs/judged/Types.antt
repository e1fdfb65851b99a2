-- The types in rules: a shape and a scalar.
use Rattle.std.specs.Prelude.{ℕ, ◌+◌, ◌-◌, ◌*◌, List, [], ◌∷◌, Option, Some, None}
use Rattle.ir_kinds.specs.declared.scalars.Scalar.{Scalar}
use Rattle.ir_kinds.specs.judged.Scalars.{component_count}
use Rattle.typing_forms.specs.IrTypes.{PlainInner, plain, TypeInner}
use Rattle.typing_forms.specs.IrTypes.inner as inner
use Rattle.typing_rules.specs.declared.rules.ConstructorSize.{ConstructorSize}
use Rattle.typing_rules.specs.declared.rules.ConstructorSize.TheVariants as size
use Rattle.typing_rules.specs.declared.rules.ValueType.{ValueType}
use Rattle.typing_rules.specs.declared.rules.Arguments.{Arguments}
use Rattle.typing_rules.specs.declared.rules.Arguments.TheVariants.{One, Two, Three, Four}

abbrev pub value_type : ConstructorSize → Scalar → ValueType
value_type n s = record { size = n; scalar = s }

-- a shape's index among the thirteen: the scalar, vectors by their size, matrices by columns and then rows
abbrev pub constructor_place : ConstructorSize → ℕ
constructor_place size.Scalar = 0
constructor_place (size.Vector n) = component_count n - 1
constructor_place (size.Matrix columns rows) = 3 * (component_count columns - 1) + (component_count rows - 1)

-- the inner type of a shape with a scalar
abbrev pub inner_of : ConstructorSize → Scalar → TypeInner
inner_of o s = elim o [ size.Scalar ↦ inner.Scalar s | size.Vector n ↦ inner.Vector n s | size.Matrix c r ↦ inner.Matrix c r s ]

-- the shape and the scalar of an inner type that is a scalar, a vector or a matrix
abbrev pub value_type_of : PlainInner → Option ValueType
value_type_of (plain (inner.Scalar s)) = Some (value_type size.Scalar s)
value_type_of (plain (inner.Vector n s)) = Some (value_type (size.Vector n) s)
value_type_of (plain (inner.Matrix c r s)) = Some (value_type (size.Matrix c r) s)
value_type_of _ = None

-- the types of arguments as a list
abbrev pub argument_list : Arguments → List ValueType
argument_list (One a) = a ∷ []
argument_list (Two a b) = a ∷ b ∷ []
argument_list (Three a b c) = a ∷ b ∷ c ∷ []
argument_list (Four a b c d) = a ∷ b ∷ c ∷ d ∷ []
