-- The leaves of a global variable, as listed.
use Rattle.std.specs.Prelude.{◌≡◌, ◌≤◌, ◌<◌, ◌+◌, ◌*◌, ℕ, List, Some, map, length, slice_get}
use Rattle.ir_items.specs.judged.GlobalPlain.{PlainGlobal}
use Rattle.ir_items.specs.judged.Plain.{PlainModule}
use Rattle.ir_types.specs.judged.Plain.{PlainInner, PlainType}
use Rattle.judgement_report.specs.declared.leaves.Leaf.{Leaf}
use Rattle.typing_infos.specs.declared.info.ModuleInfo.{ModuleInfo}
use Rattle.judgement.specs.judged.BufferLaws.{buffer_type}
use Rattle.judgement.specs.judged.Leaves.{Leaf as Place, leaves}
use Rattle.typing_forms.specs.judged.Resolutions.{inner_at}
use Rattle.typing_forms.specs.judged.Sizes.{type_size}
use Rattle.typing_forms.specs.declared.sizes.TheConstants.{MAX_TYPE_SIZE}
use Rattle.typing_layout.specs.found.Held.{AreLayouts}
use Rattle.typing_layout.specs.judged.Layout.{LayoutOK}
use Rattle.typing_layout.specs.judged.View.{type_tree}

-- a leaf of a value at an offset, without its path
abbrev pub row : (start : ℕ) → Place → Leaf
row start l = record { first = start + l.first; len = l.length; alignment = l.alignment }

abbrev pub rows : (start : ℕ) → List Place → List Leaf
rows start ls = map (row start) ls

-- each type of the list is within the maximum type size
abbrev pub AreInRange : List PlainType → Type 0
AreInRange types = (handle : ℕ) (i : PlainInner) → inner_at types handle ≡ Some i → type_size i ≤ MAX_TYPE_SIZE

-- with this nesting depth, no offset in a value at this one overflows a `u64`
abbrev pub HasRoom : (start depth : ℕ) → Type 0
HasRoom start depth = start + depth * 4294967296 ≤ 18446744073709551616

-- each type of the module has a layout
abbrev pub AreLaid : PlainModule → Type 0
AreLaid m = (handle : ℕ) → handle < length m.types → LayoutOK (type_tree m.types handle)

-- The leaves of the global variable at a handle, in the order of their paths, with one element for a runtime-sized
-- array; for a binding array those of one element.
pub record AreLeavesOf (m : PlainModule) (global : ℕ) (found : List Leaf) : Type 0 where
  pub variable : PlainGlobal
  pub at : slice_get m.globals global ≡ Some variable
  pub are : found ≡ rows 0 (leaves 1 (buffer_type m.types variable))

-- the `ModuleInfo` has the layout of each type of the module
pub record AreLayoutsIn (m : PlainModule) (info : ModuleInfo) : Type 0 where
  pub layouts : AreLayouts m.types info.layouter
  pub all : length info.layouter ≡ length m.types
