-- Types of a module by their handles, and type resolutions of expressions, as mathematical values.
use Rattle.std.specs.Prelude.{ℕ, ◌<◌, List, Option, Some, None, map, option_map, slice_get}
use Rattle.ir_types.specs.IrArena.{value_of_entry, Span}
use Rattle.ir_types.specs.judged.Plain.{PlainInner, PlainType, inner_view, type_view}
use Rattle.ir_types.specs.declared.types.IrType.{IrType}
use Rattle.typing_forms.specs.declared.resolution.TypeResolution.{TypeResolution}
use Rattle.typing_forms.specs.declared.resolution.TypeResolution.TheVariants as resolution

-- the types of an arena, without their spans
abbrev pub types_view : List (IrType × Span) → List PlainType
types_view entries = map type_view (map value_of_entry entries)

-- the inner type at a handle, if there is one
abbrev pub inner_at : List PlainType → ℕ → Option PlainInner
inner_at types handle = option_map (λ t. t.inner) (slice_get types handle)

-- the type of an expression: one of the module's by its handle, or an inner type
pub data PlainResolution : Type 0 where
  by_handle : (handle : ℕ) → PlainResolution
  by_value : PlainInner → PlainResolution

abbrev pub resolution_view : TypeResolution → PlainResolution
resolution_view (resolution.Handle handle) = by_handle handle
resolution_view (resolution.Value inner) = by_value (inner_view inner)

-- its handle, if it is given by one
abbrev pub handle_of : PlainResolution → Option ℕ
handle_of (by_handle handle) = Some handle
handle_of (by_value inner) = None

-- the inner type, if its handle has a type
abbrev pub resolved : List PlainType → PlainResolution → Option PlainInner
resolved types (by_handle handle) = inner_at types handle
resolved types (by_value inner) = Some inner

-- if it is given by a handle, that is one of this many types
abbrev pub IsAmong : ℕ → PlainResolution → Type 0
IsAmong count (by_handle handle) = handle < count
IsAmong count (by_value inner) = Unit {0}
