-- The requirements of a type, by its `TypeInner`.
use Rattle.std.specs.Prelude.{◌≡◌, ◌⊎◌, ℕ, List, Some}
use Rattle.ir_types.specs.judged.Plain.{PlainInner, PlainMember}
use Rattle.typing_layout.specs.judged.Blends.{HasSource, BlendOK, BlendsOK}
use Rattle.typing_layout.specs.judged.Rules.{ShapeOK}
use Rattle.typing_layout.specs.judged.Structs.{StructOK}
use Rattle.typing_layout.specs.judged.View.{tree_by}
use Rattle.module_type_checks.specs.Known.{types_in, tree_in}
use Rattle.module_type_checks.specs.Placed.{parts_in}
use Rattle.module_type_checks.specs.declared.context.TypeContext.{TypeContext}
use Rattle.typing_layout.specs.found.BlendFaults.{IsBlendFault}
use Rattle.typing_layout.specs.found.Faults.{IsInnerFault}
use Rattle.typing_layout.specs.found.MemberFaults.{IsStructFault}
use Rattle.typing_layout.specs.declared.type_error.TypeError.{TypeError}
use Rattle.typing_layout.specs.TypingForms.{inner_at}

abbrev pub IsInnerOK : TypeContext → PlainInner → Type 0
IsInnerOK c i = ShapeOK c.capabilities c.overrides_resolved (tree_by (tree_in c) i) × BlendsOK c.capabilities (types_in c) (Some i)

abbrev pub AreMembersOK : TypeContext → List PlainMember → (span : ℕ) → Type 0
AreMembersOK c members span = StructOK (parts_in c members) span × (HasSource members → BlendOK c.capabilities (types_in c) members)

abbrev pub AreMembersRefused : TypeContext → List PlainMember → (span : ℕ) → TypeError → Type 0
AreMembersRefused c members span e = IsStructFault (types_in c) members span e ⊎ IsBlendFault c.capabilities (types_in c) members e

-- the type at a handle has this error
pub record IsTypeFault (c : TypeContext) (handle : ℕ) (e : TypeError) : Type 0 where
  pub i : PlainInner
  pub at : inner_at (types_in c) handle ≡ Some i
  pub fault : IsInnerFault c.capabilities c.overrides_resolved (types_in c) handle i e
