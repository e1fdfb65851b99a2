-- Loads and array lengths.
use Rattle.std.specs.Prelude.{List, Option, Some}
use Rattle.ir_types.specs.judged.Plain.{PlainInner, plain, PlainType}
use Rattle.ir_types.specs.declared.types.ArraySize.TheVariants as count
use Rattle.ir_types.specs.declared.types.TypeInner.TheVariants as inner
use Rattle.typing_layout.specs.judged.Flags.{HasFlag, Data, Sized}
use Rattle.typing_layout.specs.judged.View.{type_tree}
use Rattle.spec_expressions.specs.TypingForms.{Form}
use Rattle.spec_expressions.specs.TypingForms.form as form
use Rattle.spec_statements.specs.judged.Shapes.{pointed_in}

-- the base type can be stored and has a known size, as all scalars and vectors
abbrev pub LoadOK : List PlainType → (pointer : Form) → Type 0
LoadOK types (form.Pointer base space) = HasFlag Data (type_tree types base) × HasFlag Sized (type_tree types base)
LoadOK types (form.ValuePointer n s space) = Unit {0}
LoadOK types _ = ⊥

-- a runtime-sized array
abbrev pub IsRuntimeArray : Option PlainInner → Type 0
IsRuntimeArray o = elim o [ Some (plain (inner.Array base count.Dynamic stride)) ↦ Unit {0} | _ ↦ ⊥ ]

-- a pointer to a runtime-sized array
abbrev pub ArrayLengthOK : List PlainType → (array : Form) → Type 0
ArrayLengthOK types array = IsRuntimeArray (pointed_in types array)
