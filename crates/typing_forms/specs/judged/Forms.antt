-- The canonical form of a type: it ignores names and whether the type is given by handle or by value.
use Rattle.std.specs.Prelude.{ℕ, List, Option, Some, None}
use Rattle.ir_kinds.specs.declared.spaces.AddressSpace.{AddressSpace}
use Rattle.ir_types.specs.judged.Plain.{PlainInner, struct, plain, PlainType}
use Rattle.ir_types.specs.declared.types.TypeInner.TheVariants as inner
use Rattle.typing_forms.specs.judged.Resolutions.{inner_at, PlainResolution, by_handle, by_value}
use Rattle.typing_forms.specs.declared.form.Form.{Form}
use Rattle.typing_forms.specs.declared.form.Form.TheVariants as form

-- the form of a pointer to this inner type: one to a scalar or a vector is its value pointer
abbrev pub pointing : ℕ → AddressSpace → Option PlainInner → Form
pointing base space (Some (plain (inner.Scalar s))) = form.ValuePointer None s space
pointing base space (Some (plain (inner.Vector n s))) = form.ValuePointer (Some n) s space
pointing base space _ = form.Pointer base space

-- a struct is its handle
abbrev pub struct_at : Option ℕ → Form
struct_at o = elim o [ Some handle ↦ form.Struct handle | None ↦ form.Nothing ]

-- the form of this inner type with the given handle, if any
abbrev pub form_in : List PlainType → Option ℕ → PlainInner → Form
form_in types handle (struct members span) = struct_at handle
form_in types handle (plain (inner.Scalar s)) = form.Scalar s
form_in types handle (plain (inner.Vector n s)) = form.Vector n s
form_in types handle (plain (inner.Matrix columns rows s)) = form.Matrix columns rows s
form_in types handle (plain (inner.CooperativeMatrix columns rows s role)) = form.CooperativeMatrix columns rows s role
form_in types handle (plain (inner.Atomic s)) = form.Atomic s
form_in types handle (plain (inner.Pointer base space)) = pointing base space (inner_at types base)
form_in types handle (plain (inner.ValuePointer n s space)) = form.ValuePointer n s space
form_in types handle (plain (inner.Array base size stride)) = form.Array base size stride
form_in types handle (plain (inner.Struct members span)) = struct_at handle
form_in types handle (plain (inner.Image dim arrayed class)) = form.Image dim arrayed class
form_in types handle (plain (inner.Sampler comparison)) = form.Sampler comparison
form_in types handle (plain (inner.AccelerationStructure vertex_return)) = form.AccelerationStructure vertex_return
form_in types handle (plain (inner.RayQuery vertex_return)) = form.RayQuery vertex_return
form_in types handle (plain (inner.BindingArray base size)) = form.BindingArray base size

-- the form of the type at a handle
abbrev pub form_found : List PlainType → ℕ → Option PlainInner → Form
form_found types handle o = elim o [ Some i ↦ form_in types (Some handle) i | None ↦ form.Nothing ]

abbrev pub form_of_type : List PlainType → ℕ → Form
form_of_type types handle = form_found types handle (inner_at types handle)

-- the form of a resolution
abbrev pub form_of : List PlainType → PlainResolution → Form
form_of types r = elim r [ by_handle handle ↦ form_of_type types handle | by_value i ↦ form_in types None i ]

-- it is a struct
abbrev pub IsStruct : PlainInner → Type 0
IsStruct (struct members span) = Unit {0}
IsStruct (plain i) = ⊥

-- a struct is identified by its handle
abbrev pub NoStructValue : PlainResolution → Type 0
NoStructValue (by_handle handle) = Unit {0}
NoStructValue (by_value i) = IsStruct i → ⊥
