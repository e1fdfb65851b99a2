-- Lengths of indexable types.
use Rattle.std.specs.Prelude.{List, Option, Some, None, Result, Ok, Err}
use Rattle.ir_kinds.specs.judged.Scalars.{component_count}
use Rattle.ir_types.specs.judged.Plain.{PlainInner, plain, PlainType}
use Rattle.ir_types.specs.declared.types.ArraySize.{ArraySize}
use Rattle.ir_types.specs.declared.types.ArraySize.TheVariants as count
use Rattle.ir_types.specs.declared.types.TypeInner.TheVariants as inner
use Rattle.typing_forms.specs.judged.Resolutions.{inner_at}
use Rattle.typing_forms.specs.declared.index.IndexableLength.{IndexableLength}
use Rattle.typing_forms.specs.declared.index.IndexableLength.TheVariants as indexable
use Rattle.typing_forms.specs.declared.index.IndexableLengthError.{IndexableLengthError}
use Rattle.typing_forms.specs.declared.index.IndexableLengthError.TheVariants as fault

abbrev pub Length : Type 0
Length = Result IndexableLength IndexableLengthError

-- the length of an array of this size
abbrev pub array_length : ArraySize → Length
array_length (count.Constant n) = Ok (indexable.Known n)
array_length (count.Pending override) = Err (fault.Pending (count.Pending override))
array_length count.Dynamic = Ok indexable.Dynamic

-- the length of a type that has elements itself
abbrev pub elements_of : PlainInner → Length
elements_of (plain (inner.Vector n s)) = Ok (indexable.Known (component_count n))
elements_of (plain (inner.Matrix columns rows s)) = Ok (indexable.Known (component_count columns))
elements_of (plain (inner.Array base size stride)) = array_length size
elements_of (plain (inner.BindingArray base size)) = array_length size
elements_of _ = Err fault.TypeNotIndexable

-- the length of an indexable type, if there is a type
abbrev pub elements_found : Option PlainInner → Length
elements_found (Some i) = elements_of i
elements_found None = Err fault.TypeNotIndexable

-- the length of an indexable type, or of what a pointer points to
abbrev pub length_of : List PlainType → PlainInner → Length
length_of types (plain (inner.Pointer base space)) = elements_found (inner_at types base)
length_of types (plain (inner.ValuePointer (Some n) s space)) = Ok (indexable.Known (component_count n))
length_of types i = elements_of i
