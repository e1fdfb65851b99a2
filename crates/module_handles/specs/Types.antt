-- The types of expressions are types of the module, or built of such.
use Rattle.std.specs.Prelude.{◌<◌, ℕ, List, length}
use Rattle.ir_items.specs.judged.Plain.{PlainFunction, PlainModule}
use Rattle.ir_types.specs.judged.Plain.{PlainType}
use Rattle.spec_expressions.specs.judged.Typing.{HasType}
use Rattle.spec_expressions.specs.judged.FunctionHandles.{HandlesInRange}
use Rattle.spec_expressions.specs.judged.ModuleHandles.{HandlesOK}
use Rattle.typing_forms.specs.declared.form.Form.{Form}
use Rattle.typing_forms.specs.declared.form.Form.TheVariants.{Scalar, Vector, Matrix, CooperativeMatrix, Atomic, Pointer, ValuePointer, Array, Struct, Image, Sampler, AccelerationStructure, RayQuery, BindingArray, Nothing}

-- it is a form, and each type that it references is one of these
abbrev pub IsMadeOf : List PlainType → Form → Type 0
IsMadeOf types Nothing = ⊥
IsMadeOf types (Struct handle) = handle < length types
IsMadeOf types (Pointer base space) = base < length types
IsMadeOf types (Array base size stride) = base < length types
IsMadeOf types (BindingArray base size) = base < length types
IsMadeOf types (Scalar s) = Unit {0}
IsMadeOf types (Vector n s) = Unit {0}
IsMadeOf types (Matrix columns rows s) = Unit {0}
IsMadeOf types (CooperativeMatrix columns rows s role) = Unit {0}
IsMadeOf types (Atomic s) = Unit {0}
IsMadeOf types (ValuePointer n s space) = Unit {0}
IsMadeOf types (Image dim arrayed class) = Unit {0}
IsMadeOf types (Sampler comparison) = Unit {0}
IsMadeOf types (AccelerationStructure vertex_return) = Unit {0}
IsMadeOf types (RayQuery vertex_return) = Unit {0}

-- of a function of a module with valid handles
abbrev pub OrderGivesTypes : Type 0
OrderGivesTypes = (m : PlainModule) → HandlesOK m → (f : PlainFunction) → HandlesInRange m f → (e : ℕ) (t : Form) → HasType m f e t → IsMadeOf m.types t
