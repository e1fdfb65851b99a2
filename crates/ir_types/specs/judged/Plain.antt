-- The types of a module as plain data, without the memory of strings and lists.
use Rattle.std.specs.Prelude.{ℕ, List, Option, option_map, string_bytes, map}
use Rattle.ir_kinds.specs.declared.bindings.Binding.{Binding}
use Rattle.ir_types.specs.declared.types.StructMember.{StructMember}
use Rattle.ir_types.specs.declared.types.TypeInner.{TypeInner}
use Rattle.ir_types.specs.declared.types.TypeInner.TheVariants as inner
use Rattle.ir_types.specs.declared.types.IrType.{IrType}

-- A struct member.
pub record PlainMember : Type 0 where
  pub name : Option (List ℕ)
  pub ty : ℕ
  pub binding : Option Binding
  pub offset : ℕ

-- A struct by its members, and any other inner type as it is.
pub data PlainInner : Type 0 where
  struct : (members : List PlainMember) → (span : ℕ) → PlainInner
  plain : TypeInner → PlainInner

-- A type with an optional name.
pub record PlainType : Type 0 where
  pub name : Option (List ℕ)
  pub inner : PlainInner

abbrev pub member_view : StructMember → PlainMember
member_view m = record { name = option_map string_bytes m.name; ty = m.ty; binding = m.binding; offset = m.offset }

abbrev pub inner_view : TypeInner → PlainInner
inner_view (inner.Struct members span) = struct (map member_view members.items) span
inner_view other = plain other

abbrev pub type_view : IrType → PlainType
type_view t = record { name = option_map string_bytes t.name; inner = inner_view t.inner }
