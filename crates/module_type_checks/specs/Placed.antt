-- Members with their offsets.
use Rattle.std.specs.Prelude.{◌≡◌, ◌<◌, ℕ, List, Option, Some, None, slice_get}
use Rattle.ir_types.specs.judged.Plain.{PlainMember}
use Rattle.typing_layout.specs.judged.Parts.{TreeMember, member_list, item_before, end_of}
use Rattle.typing_layout.specs.judged.Structs.{MemberOK}
use Rattle.typing_layout.specs.judged.Tree.{Tree}
use Rattle.typing_layout.specs.judged.View.{members_by}
use Rattle.module_type_checks.specs.Known.{tree_in, AreFacts}
use Rattle.module_type_checks.specs.declared.context.TypeContext.{TypeContext}
use Rattle.module_type_checks.specs.declared.members.Placed.{Placed}

abbrev pub parts_in : TypeContext → List PlainMember → List TreeMember
parts_in c members = member_list (members_by (tree_in c) members)

-- a member with the tree of its type
abbrev pub part_of : (tree : ℕ → Tree) → PlainMember → TreeMember
part_of tree m = record { of_type = tree m.ty; binding = m.binding; offset = m.offset }

-- the facts about a member
pub record IsReported (c : TypeContext) (m : PlainMember) (placed : Placed) : Type 0 where
  pub of : placed.ty ≡ m.ty
  pub begins : placed.offset ≡ m.offset
  pub facts : AreFacts c (tree_in c m.ty) placed.facts

-- the facts about the member at an index
pub record IsPlaced (c : TypeContext) (members : List PlainMember) (place : ℕ) (placed : Placed) : Type 0 where
  pub m : PlainMember
  pub at : slice_get members place ≡ Some m
  pub part : slice_get (parts_in c members) place ≡ Some (part_of (tree_in c) m)
  pub told : IsReported c m placed

-- the facts about the member before an index
pub record IsBefore (c : TypeContext) (members : List PlainMember) (place : ℕ) (placed : Placed) : Type 0 where
  pub m : PlainMember
  pub at : item_before members place ≡ Some m
  pub part : item_before (parts_in c members) place ≡ Some (part_of (tree_in c) m)
  pub told : IsReported c m placed

-- its end offset, and 0 if there is none
abbrev pub end_after : Option TreeMember → ℕ
end_after None = 0
end_after (Some p) = end_of p

-- P holds of the element at an index, if any
abbrev pub AtPlace : (P : ℕ → TreeMember → Type 0) → List TreeMember → (place : ℕ) → Type 0
AtPlace P ps place = (p : TreeMember) → slice_get ps place ≡ Some p → P place p

-- P holds of the element before an index, if any
pub record Below (P : ℕ → TreeMember → Type 0) (ps : List TreeMember) (place : ℕ) : Type 0 where
  pub each : (k : ℕ) → k < place → AtPlace P ps k

-- the member is valid at its index
abbrev pub PlacedOK : TypeContext → List PlainMember → (span place : ℕ) → Type 0
PlacedOK c members span place = AtPlace (MemberOK (parts_in c members) span) (parts_in c members) place
