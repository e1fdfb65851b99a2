-- Sets of type flags as bits, and the flags that all members have.
use Rattle.std.specs.Prelude.{◌↔◌, ◌≤◌, ℕ, List, Bool, IsTrue, IfSome}
use Rattle.ir_flags.specs.Sets.{Has}
use Rattle.ir_types.specs.judged.Plain.{PlainMember}
use Rattle.typing_layout.specs.judged.Flags.{TypeFlag, bit, among, HasFlag, AllHave, Data, Sized, Copy, IoShareable, HostShareable, CreationResolved, Argument, Constructible}
use Rattle.typing_layout.specs.judged.Parts.{TreeMember, item_before, end_of}
use Rattle.typing_layout.specs.judged.View.{members_by}
use Rattle.module_type_checks.specs.Known.{tree_in}
use Rattle.module_type_checks.specs.Placed.{parts_in, Below}
use Rattle.module_type_checks.specs.declared.context.TypeContext.{TypeContext}
use Rattle.typing_layout.specs.declared.type_flags.TypeFlags.{TypeFlags}

-- the set has the flags of the list
pub record AreOf (set : ℕ) (flags : List TypeFlag) : Type 0 where
  pub each : (f : TypeFlag) → Has set (bit f) ↔ IsTrue (among flags f)

-- `HOST_SHAREABLE` under a condition
abbrev pub HostIf : TypeFlag → Bool → Type 0
HostIf HostShareable b = IsTrue b
HostIf Data b = Unit {0}
HostIf Sized b = Unit {0}
HostIf Copy b = Unit {0}
HostIf IoShareable b = Unit {0}
HostIf CreationResolved b = Unit {0}
HostIf Argument b = Unit {0}
HostIf Constructible b = Unit {0}

pub record AreKept (set : ℕ) (in_order : Bool) (new : ℕ) : Type 0 where
  pub each : (f : TypeFlag) → Has new (bit f) ↔ (Has set (bit f) × HostIf f in_order)

-- `IO_SHAREABLE` exactly if a condition holds
abbrev pub IoIs : TypeFlag → (kept : Type 0) → Bool → Type 0
IoIs IoShareable kept b = IsTrue b
IoIs Data kept b = kept
IoIs Sized kept b = kept
IoIs Copy kept b = kept
IoIs HostShareable kept b = kept
IoIs CreationResolved kept b = kept
IoIs Argument kept b = kept
IoIs Constructible kept b = kept

pub record AreShared (set : ℕ) (blended : Bool) (new : ℕ) : Type 0 where
  pub each : (f : TypeFlag) → Has new (bit f) ↔ IoIs f (Has set (bit f)) blended

-- the set has the flags that all members have
pub record AreCommon (c : TypeContext) (members : List PlainMember) (set : TypeFlags) : Type 0 where
  pub each : (f : TypeFlag) → Has set.0 (bit f) ↔ AllHave f (members_by (tree_in c) members)

-- the flags that all members before an index have
pub record CommonBelow (c : TypeContext) (members : List PlainMember) (set : TypeFlags) (place : ℕ) : Type 0 where
  pub each : (f : TypeFlag) → Has set.0 (bit f) ↔ Below (λ k p. HasFlag f p.of_type) (parts_in c members) place

-- a member's offset is at or after the end of the previous member
abbrev pub Follows : List TreeMember → (place : ℕ) → TreeMember → Type 0
Follows ps place p = IfSome (item_before ps place) (λ a. end_of a ≤ p.offset)
