-- The canonical form of a pointer.
use Rattle.std.specs.Prelude.{◌≡◌, List, Option, Some, None}
use Rattle.ir_kinds.specs.declared.spaces.AddressSpace.{AddressSpace}
use Rattle.ir_types.specs.judged.Plain.{PlainInner, plain, PlainType}
use Rattle.ir_types.specs.declared.types.TypeInner.TheVariants as inner
use Rattle.typing_forms.specs.judged.Forms.{form_in, IsStruct}
use Rattle.typing_forms.specs.judged.Resolutions.{inner_at}

-- the value pointer to a scalar or a vector
abbrev pub value_pointer : AddressSpace → Option PlainInner → Option PlainInner
value_pointer space (Some (plain (inner.Scalar s))) = Some (plain (inner.ValuePointer None s space))
value_pointer space (Some (plain (inner.Vector n s))) = Some (plain (inner.ValuePointer (Some n) s space))
value_pointer space _ = None

-- the canonical form, if a type is not canonical already
abbrev pub canonical : List PlainType → PlainInner → Option PlainInner
canonical types (plain (inner.Pointer base space)) = value_pointer space (inner_at types base)
canonical types _ = None

-- a struct is compared by its handle only, so two structs without one are not comparable
abbrev pub NotBothStructs : PlainInner → PlainInner → Type 0
NotBothStructs left right = IsStruct left → IsStruct right → ⊥

-- a canonical form has the form of the type, and is its own canonical form
abbrev pub CanonicalOnce : Type 0
CanonicalOnce = (types : List PlainType) (i c : PlainInner) → canonical types i ≡ Some c
    → (form_in types None c ≡ form_in types None i) × (canonical types c ≡ None)
