-- The innermost element types of arrays and the innermost last members of structs.
use Rattle.std.specs.Prelude.{◌≡◌, ◌⊎◌, ℕ, List, Option, Some, None, Bool, true, false, option_map, slice_get, length, ◌-◌}
use Rattle.ir_kinds.specs.declared.scalars.Scalar.{Scalar}
use Rattle.ir_kinds.specs.declared.scalars.ScalarKind.TheVariants as kind
use Rattle.ir_types.specs.judged.Plain.{PlainInner, struct, plain, PlainType}
use Rattle.ir_types.specs.declared.types.ArraySize.TheVariants as count
use Rattle.ir_types.specs.declared.types.TypeInner.TheVariants as inner
use Rattle.typing_forms.specs.judged.Resolutions.{inner_at}

-- A chain of types ends at one that names no next type.
pub data LeadsTo (next : PlainInner → Option ℕ) (types : List PlainType) : PlainInner → PlainInner → Type 0 where
  ends : {i : PlainInner} → next i ≡ None → LeadsTo next types i i
  goes : {i j end : PlainInner} {handle : ℕ} → next i ≡ Some handle → inner_at types handle ≡ Some j → LeadsTo next types j end → LeadsTo next types i end

-- the type of an array's elements
abbrev pub base_of : PlainInner → Option ℕ
base_of (plain (inner.Array base size stride)) = Some base
base_of _ = None

-- the type of a struct's last member
abbrev pub last_of : PlainInner → Option ℕ
last_of (struct members span) = option_map (λ m. m.ty) (slice_get members (length members - 1))
last_of (plain i) = None

-- ---- elements of arrays

-- the scalar that a conversion changes
abbrev pub converted_scalar : PlainInner → Option Scalar
converted_scalar (plain (inner.Scalar s)) = Some s
converted_scalar (plain (inner.Vector n s)) = Some s
converted_scalar (plain (inner.Matrix columns rows s)) = Some s
converted_scalar _ = None

-- the conversion changes this scalar: its own, or that of an array's elements at any depth
abbrev pub ConvertsBy : List PlainType → PlainInner → Scalar → Type 0
ConvertsBy types i s = (end : PlainInner) × LeadsTo base_of types i end × (converted_scalar end ≡ Some s)

abbrev pub IsAbstractScalar : Scalar → Type 0
IsAbstractScalar s = (s.kind ≡ kind.AbstractInt) ⊎ (s.kind ≡ kind.AbstractFloat)

-- a type with a scalar is abstract if the scalar is
abbrev pub HasAbstractScalar : PlainInner → Type 0
HasAbstractScalar (plain (inner.Scalar s)) = IsAbstractScalar s
HasAbstractScalar (plain (inner.Vector n s)) = IsAbstractScalar s
HasAbstractScalar (plain (inner.Matrix columns rows s)) = IsAbstractScalar s
HasAbstractScalar (plain (inner.CooperativeMatrix columns rows s role)) = IsAbstractScalar s
HasAbstractScalar (plain (inner.Atomic s)) = IsAbstractScalar s
HasAbstractScalar _ = ⊥

-- the type is abstract: its own scalars are, or those of an array's elements at any depth
abbrev pub IsAbstract : List PlainType → PlainInner → Type 0
IsAbstract types i = (end : PlainInner) × LeadsTo base_of types i end × HasAbstractScalar end

-- ---- last members of structs

abbrev pub is_runtime_array : PlainInner → Bool
is_runtime_array (plain (inner.Array base count.Dynamic stride)) = true
is_runtime_array _ = false

-- the type is runtime-sized: a runtime-sized array, or a struct that ends in one
abbrev pub IsDynamicallySized : List PlainType → PlainInner → Type 0
IsDynamicallySized types i = (end : PlainInner) × LeadsTo last_of types i end × (is_runtime_array end ≡ true)
