-- Arguments, variables and loads.
use Rattle.std.specs.Prelude.{ℕ, List, Option, Some, None, Result, Ok, Err, option_map, ok_or, slice_get}
use Rattle.ir_kinds.specs.declared.spaces.AddressSpace.{AddressSpace}
use Rattle.ir_kinds.specs.declared.spaces.AddressSpace.TheVariants as space
use Rattle.ir_kinds.specs.declared.scalars.Scalar.{Scalar}
use Rattle.ir_kinds.specs.declared.scalars.VectorSize.{VectorSize}
use Rattle.typing_layout.specs.IrTypes.{PlainInner, plain, PlainType}
use Rattle.typing_layout.specs.IrTypes.inner as inner
use Rattle.ir_items.specs.judged.GlobalPlain.{PlainGlobal}
use Rattle.typing_layout.specs.TypingForms.{Form, form_of_type, inner_at}
use Rattle.typing_layout.specs.TypingForms.form as form
use Rattle.spec_expressions.specs.judged.Access.{pointer_to}
use Rattle.spec_expressions.specs.judged.Context.{Context}
use Rattle.spec_expressions.specs.declared.faults.TypingFault.{TypingFault}
use Rattle.spec_expressions.specs.declared.faults.TypingFault.TheVariants.{FunctionArgumentNotFound, InvalidPointer}

-- an argument has its declared type
abbrev pub argument_type : Context → (number : ℕ) → Result Form TypingFault
argument_type c number = ok_or (option_map (λ a. form_of_type c.types a.ty) (slice_get c.arguments number)) (FunctionArgumentNotFound number)

-- a variable of this type in a space: in the handle space the type itself, and otherwise a pointer to it
abbrev pub variable_type : List PlainType → (type : ℕ) → AddressSpace → Form
variable_type types type s = elim s [ space.Handle ↦ form_of_type types type | other ↦ pointer_to types type other ]

abbrev pub global_if : List PlainType → Option PlainGlobal → Form
global_if types o = elim o [ Some g ↦ variable_type types g.ty g.space | None ↦ form.Nothing ]

abbrev pub global_type : Context → ℕ → Form
global_type c global = global_if c.types (slice_get c.globals global)

-- a pointer to a variable, if there is one
abbrev pub local_if : List PlainType → Option ℕ → Form
local_if types o = elim o [ Some type ↦ pointer_to types type space.Function | None ↦ form.Nothing ]

abbrev pub local_type : Context → ℕ → Form
local_type c local = local_if c.types (option_map (λ l. l.ty) (slice_get c.locals local))

-- the type of a load through a pointer: the scalar of an atomic, and otherwise the base type
abbrev pub loaded : List PlainType → (base : ℕ) → Option PlainInner → Form
loaded types base o = elim o [ Some (plain (inner.Atomic s)) ↦ form.Scalar s | _ ↦ form_of_type types base ]

-- a vector of this size, or a scalar if none is given
abbrev pub loaded_value : Option VectorSize → Scalar → Form
loaded_value o s = elim o [ None ↦ form.Scalar s | Some n ↦ form.Vector n s ]

-- pointer is the pointer's expression
abbrev pub load_type : List PlainType → (pointer : ℕ) → (of : Form) → Result Form TypingFault
load_type types pointer (form.Pointer base space) = Ok (loaded types base (inner_at types base))
load_type types pointer (form.ValuePointer n s space) = Ok (loaded_value n s)
load_type types pointer _ = Err (InvalidPointer pointer)
