-- Accesses: components of a value, or pointers to components of a pointer's base type.
use Rattle.std.specs.Prelude.{ℕ, List, Option, Some, None, Result, Ok, Err, true, false, option_map, ok_or, slice_get, nat_lt, if◌then◌else◌}
use Rattle.ir_kinds.specs.declared.spaces.AddressSpace.{AddressSpace}
use Rattle.ir_kinds.specs.judged.Scalars.{component_count}
use Rattle.typing_layout.specs.IrTypes.{PlainInner, struct, plain, PlainMember, PlainType}
use Rattle.typing_layout.specs.IrTypes.inner as inner
use Rattle.typing_layout.specs.TypingForms.{Form, pointing, form_of_type, inner_at}
use Rattle.typing_layout.specs.TypingForms.form as form
use Rattle.spec_expressions.specs.declared.faults.TypingFault.{TypingFault}
use Rattle.spec_expressions.specs.declared.faults.TypingFault.TheVariants.{OutOfBoundsIndex, InvalidAccess}

-- a pointer to the type at a handle
abbrev pub pointer_to : List PlainType → ℕ → AddressSpace → Form
pointer_to types base space = pointing base space (inner_at types base)

-- ---- dynamic access (`Access`)

-- a pointer to an element of the pointer's base type; a pointer to a vector is a value pointer, and has its own row
abbrev pub pointed_element : List PlainType → AddressSpace → Option PlainInner → Option Form
pointed_element types space (Some (plain (inner.Matrix columns rows s))) = Some (form.ValuePointer (Some rows) s space)
pointed_element types space (Some (plain (inner.Array base size stride))) = Some (pointer_to types base space)
pointed_element types space (Some (plain (inner.BindingArray base size))) = Some (pointer_to types base space)
pointed_element types space _ = None

-- an element of a value: of a vector, a column of a matrix, of an array; for a pointer, a pointer to the element
abbrev pub element : List PlainType → Form → Option Form
element types (form.Vector n s) = Some (form.Scalar s)
element types (form.Matrix columns rows s) = Some (form.Vector rows s)
element types (form.Array base size stride) = Some (form_of_type types base)
element types (form.BindingArray base size) = Some (form_of_type types base)
element types (form.ValuePointer (Some n) s space) = Some (form.ValuePointer None s space)
element types (form.Pointer base space) = pointed_element types space (inner_at types base)
element types _ = None

-- base is the base expression, and of is its type
abbrev pub access_type : List PlainType → (base : ℕ) → (of : Form) → Result Form TypingFault
access_type types base of = ok_or (element types of) (InvalidAccess base true)

-- ---- constant access (`AccessIndex`)

-- the component exists if the index is in bounds
abbrev pub part_in_bounds : (base index count : ℕ) → Form → Result Form TypingFault
part_in_bounds base index count found = if nat_lt index count then Ok found else Err (OutOfBoundsIndex base index)

-- the member of a struct at an index, with the result type that `given` computes
abbrev pub member : (base index : ℕ) → (ℕ → Form) → List PlainMember → Result Form TypingFault
member base index given members = ok_or (option_map (λ m. given m.ty) (slice_get members index)) (OutOfBoundsIndex base index)

-- a pointer to a component of the pointer's base type
abbrev pub pointed_part : List PlainType → (base index : ℕ) → AddressSpace → Option PlainInner → Result Form TypingFault
pointed_part types base index space (Some (struct members span)) = member base index (λ type. pointer_to types type space) members
pointed_part types base index space (Some (plain (inner.Matrix columns rows s))) = part_in_bounds base index (component_count columns) (form.ValuePointer (Some rows) s space)
pointed_part types base index space (Some (plain (inner.Array element size stride))) = Ok (pointer_to types element space)
pointed_part types base index space (Some (plain (inner.BindingArray element size))) = Ok (pointer_to types element space)
pointed_part types base index space _ = Err (InvalidAccess base false)

-- the type of a struct's member, by index
abbrev pub member_of : List PlainType → (base index : ℕ) → Option PlainInner → Result Form TypingFault
member_of types base index (Some (struct members span)) = member base index (form_of_type types) members
member_of types base index _ = Err (InvalidAccess base false)

-- a component of a value: as an element, or a member of a struct; for a pointer, a pointer to it
abbrev pub access_index_type : List PlainType → (base index : ℕ) → (of : Form) → Result Form TypingFault
access_index_type types base index (form.Vector n s) = part_in_bounds base index (component_count n) (form.Scalar s)
access_index_type types base index (form.Matrix columns rows s) = part_in_bounds base index (component_count columns) (form.Vector rows s)
access_index_type types base index (form.Array element size stride) = Ok (form_of_type types element)
access_index_type types base index (form.BindingArray element size) = Ok (form_of_type types element)
access_index_type types base index (form.Struct handle) = member_of types base index (inner_at types handle)
access_index_type types base index (form.ValuePointer (Some n) s space) = part_in_bounds base index (component_count n) (form.ValuePointer None s space)
access_index_type types base index (form.Pointer pointee space) = pointed_part types base index space (inner_at types pointee)
access_index_type types base index _ = Err (InvalidAccess base false)
