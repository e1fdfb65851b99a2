-- Sizes of arrays.
use Rattle.ir_types.specs.declared.types.ArraySize.{ArraySize}
use Rattle.ir_types.specs.declared.types.ArraySize.TheVariants as count

-- an array of this size is runtime-sized
abbrev pub IsDynamic : ArraySize → Type 0
IsDynamic n = elim n [ count.Dynamic ↦ Unit {0} | _ ↦ ⊥ ]
