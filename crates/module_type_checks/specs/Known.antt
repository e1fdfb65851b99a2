-- The known facts about the types before one.
use Rattle.std.specs.Prelude.{◌≡◌, ◌≤◌, ℕ, List, Some, length, slice_get, if◌then◌else◌}
use Rattle.ir_types.specs.judged.Plain.{PlainType}
use Rattle.typing_layout.specs.judged.Buffers.{uniform_alignment, free_after}
use Rattle.typing_layout.specs.judged.Parts.{TreeMember, end_of}
use Rattle.typing_layout.specs.judged.Layout.{size, alignment}
use Rattle.typing_layout.specs.judged.Tree.{Tree}
use Rattle.typing_layout.specs.judged.View.{type_tree}
use Rattle.module_type_checks.specs.declared.context.TypeContext.{TypeContext}
use Rattle.module_type_checks.specs.declared.facts.Facts.{Facts}
use Rattle.typing_layout.specs.found.Infos.{HasInfo}
use Rattle.typing_layout.specs.declared.info.TypeInfo.{TypeInfo}
use Rattle.typing_layout.specs.TypingForms.{TypesGoBack, types_view, rounded_up}
use Rattle.typing_layout.specs.found.Held.{AreLayouts}

abbrev pub types_in : TypeContext → List PlainType
types_in c = types_view c.types.now

abbrev pub tree_in : TypeContext → (handle : ℕ) → Tree
tree_in c handle = type_tree (types_in c) handle

-- there is a `TypeInfo` for each type of the module
pub record AreInfos (types : List PlainType) (infos : List TypeInfo) : Type 0 where
  pub each : (handle : ℕ) (i : TypeInfo) → slice_get infos handle ≡ Some i → HasInfo types (type_tree types handle) i

-- types reference only earlier types, and the layouts and the `TypeInfo`s of the first ones are known
pub record IsKnown (c : TypeContext) : Type 0 where
  pub back : TypesGoBack (types_in c)
  pub held : AreLayouts (types_in c) c.layouter.now
  pub told : AreInfos (types_in c) c.infos.now
  pub laid : length c.infos.now ≤ length c.layouter.now

-- the facts about a type with this tree
pub record AreFacts (c : TypeContext) (t : Tree) (f : Facts) : Type 0 where
  pub bytes : f.size ≡ size t
  pub aligned : f.alignment ≡ alignment t
  pub uniform : f.uniform_alignment ≡ uniform_alignment t
  pub behind : (p : TreeMember) → free_after p t ≡ (if f.is_struct then rounded_up 16 (end_of p) else 0)
  pub info : HasInfo (types_in c) t f.info
