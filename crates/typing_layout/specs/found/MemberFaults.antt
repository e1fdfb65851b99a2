-- Errors of a struct's member.
use Rattle.std.specs.Prelude.{◌≡◌, ◌≢◌, ◌<◌, ◌+◌, ℕ, suc, List, [], Some, length, slice_get}
use Rattle.typing_forms.specs.IrTypes.{PlainMember, PlainType}
use Rattle.typing_layout.specs.judged.Flags.{HasFlag, Data, Sized}
use Rattle.typing_layout.specs.judged.Parts.{item_before}
use Rattle.typing_layout.specs.judged.Layout.{size}
use Rattle.typing_layout.specs.judged.View.{type_tree}
use Rattle.typing_layout.specs.declared.type_error.TypeError.{TypeError}
use Rattle.typing_layout.specs.declared.type_error.TypeError.TheVariants as error

-- a member at an index begins at an offset and ends after a limit
pub record EndsPast (types : List PlainType) (m : PlainMember) (bound : ℕ) : Type 0 where
  pub past : bound < m.offset + size (type_tree types m.ty)

abbrev pub IsMemberFault : List PlainType → List PlainMember → (span place : ℕ) → PlainMember → TypeError → Type 0
IsMemberFault types members span place m (error.InvalidData index ty) = (index ≡ place) × (ty ≡ m.ty) × ¬ HasFlag Data (type_tree types m.ty)
IsMemberFault types members span place m (error.InvalidDynamicArray index ty) = (index ≡ place) × (ty ≡ m.ty) × (suc place < length members) × ¬ HasFlag Sized (type_tree types m.ty)
IsMemberFault types members span place m (error.MemberOverlap index offset) =
    (index ≡ place) × (offset ≡ m.offset) × (offset ≢ 0) × (a : PlainMember) × (item_before members place ≡ Some a) × EndsPast types a offset
IsMemberFault types members span place m (error.MemberOutOfBounds index offset bytes end) =
    (index ≡ place) × (offset ≡ m.offset) × (bytes ≡ size (type_tree types m.ty)) × (end ≡ span) × EndsPast types m span
IsMemberFault types members span place m _ = ⊥

abbrev pub IsStructFault : List PlainType → List PlainMember → (span : ℕ) → TypeError → Type 0
IsStructFault types members span error.EmptyStruct = members ≡ []
IsStructFault types members span e = (place : ℕ) × (m : PlainMember) × (slice_get members place ≡ Some m) × IsMemberFault types members span place m e
