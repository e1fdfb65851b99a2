-- Indices of accesses.
use Rattle.std.specs.Prelude.{◌<◌, ℕ, ℤ, pos, negsuc, List, Option, Some, None, IfSome, option_and_then, option_map}
use Rattle.ir_types.specs.judged.ExpressionPlain.{PlainExpression, plain}
use Rattle.ir_types.specs.declared.expressions.Expression.TheVariants as x
use Rattle.ir_kinds.specs.judged.Scalars.{component_count}
use Rattle.ir_kinds.specs.declared.values.Literal.{Literal}
use Rattle.ir_kinds.specs.declared.values.Literal.TheVariants as literal
use Rattle.ir_types.specs.judged.Plain.{PlainInner, plain as plain_type, PlainType}
use Rattle.ir_types.specs.declared.types.ArraySize.{ArraySize}
use Rattle.ir_types.specs.declared.types.ArraySize.TheVariants as count
use Rattle.ir_types.specs.declared.types.TypeInner.TheVariants as inner
use Rattle.spec_expressions.specs.TypingForms.{Form, inner_at, declared_size}
use Rattle.spec_expressions.specs.TypingForms.form as form
use Rattle.spec_statements.specs.judged.Shapes.{IsIntegerScalar}

-- ---- the number of components, if it is known statically

abbrev pub element_count : ArraySize → Option ℕ
element_count o = elim o [ count.Constant n ↦ Some n | count.Pending override ↦ None | count.Dynamic ↦ None ]

-- the number of components of a pointer's base type
abbrev pub pointed_count : Option PlainInner → Option ℕ
pointed_count (Some (plain_type (inner.Vector n s))) = Some (component_count n)
pointed_count (Some (plain_type (inner.Matrix columns rows s))) = Some (component_count columns)
pointed_count (Some i) = option_and_then element_count (declared_size i)
pointed_count None = None

-- the number of components of a vector, a matrix (its columns), an array of constant length, or a pointer to one of these
abbrev pub known_length : List PlainType → Form → Option ℕ
known_length types (form.Vector n s) = Some (component_count n)
known_length types (form.Matrix columns rows s) = Some (component_count columns)
known_length types (form.Array base n stride) = element_count n
known_length types (form.BindingArray base n) = element_count n
known_length types (form.ValuePointer n s space) = option_map component_count n
known_length types (form.Pointer base space) = pointed_count (inner_at types base)
known_length types (form.Scalar s) = None
known_length types (form.CooperativeMatrix columns rows s role) = None
known_length types (form.Atomic s) = None
known_length types (form.Struct handle) = None
known_length types (form.Image dim arrayed class) = None
known_length types (form.Sampler comparison) = None
known_length types (form.AccelerationStructure vertex_return) = None
known_length types (form.RayQuery vertex_return) = None
known_length types form.Nothing = None

-- ---- dynamic access

abbrev pub literal_of : PlainExpression → Option Literal
literal_of e = elim e [ plain (x.Literal value) ↦ Some value | _ ↦ None ]

-- the value of a literal index: 32-bit, signed or unsigned
abbrev pub index_of : Literal → Option ℤ
index_of (literal.I32 z) = Some z
index_of (literal.U32 n) = Some (pos n)
index_of (literal.F64 bits) = None
index_of (literal.F32 bits) = None
index_of (literal.F16 bits) = None
index_of (literal.U16 n) = None
index_of (literal.I16 z) = None
index_of (literal.U64 n) = None
index_of (literal.I64 z) = None
index_of (literal.Bool b) = None
index_of (literal.AbstractInt z) = None
index_of (literal.AbstractFloat bits) = None

-- a valid index, if the number of components is known
abbrev pub IsIndexOf : (parts : Option ℕ) → ℤ → Type 0
IsIndexOf parts z = elim z [ pos n ↦ IfSome parts (λ many. n < many) | negsuc n ↦ ⊥ ]

-- the index is an integer scalar; if it is a literal, it is in bounds
pub record AccessOK (types : List PlainType) (base index : Form) (written : Option PlainExpression) : Type 0 where
  pub integer : IsIntegerScalar index
  pub within : IfSome (option_and_then index_of (option_and_then literal_of written)) (IsIndexOf (known_length types base))

-- ---- constant access

abbrev pub AccessIndexOK : List PlainType → (base : Form) → (index : ℕ) → Type 0
AccessIndexOK types base index = IfSome (known_length types base) (λ many. index < many)
