-- Laws of the buffers of a valid module.
use Rattle.std.specs.Prelude.{◌≡◌, ℕ, Bool, List, IsTrue, Some, slice_get}
use Rattle.ir_flags.specs.Sets.{Has}
use Rattle.ir_flags.specs.declared.settings.TheConstants.ValidationFlags.{STRUCT_LAYOUTS}
use Rattle.ir_flags.specs.declared.settings.Settings.{Settings}
use Rattle.ir_items.specs.judged.GlobalPlain.{PlainGlobal}
use Rattle.ir_items.specs.judged.Plain.{PlainModule}
use Rattle.ir_types.specs.judged.Plain.{PlainType}
use Rattle.judgement.specs.judged.Sound.{StrideOK, LeavesOK, IsBuffer}
use Rattle.spec_interface.specs.judged.Globals.{GlobalsOK}
use Rattle.spec_interface.specs.judged.Spaces.{effective_type}
use Rattle.judgement.specs.judged.ModuleSteps.{ModuleOK}
use Rattle.judgement.specs.judged.Lines.{is_buffer, buffer_line, buffer_of}
use Rattle.typing_layout.specs.judged.Layout.{size, alignment}
use Rattle.typing_layout.specs.judged.Parts.{Everywhere}
use Rattle.typing_layout.specs.judged.Tree.{Tree}
use Rattle.typing_layout.specs.judged.View.{type_tree}

-- the type whose layout is reported for a global variable: for a binding array its element type
abbrev pub buffer_type : List PlainType → PlainGlobal → Tree
buffer_type types v = type_tree types (effective_type types v.ty)

-- The line of the report for a global variable gives the size and the alignment of a type whose leaves are aligned, disjoint
-- and within that size, unless some array in it has a stride less than its element size.
pub record IsSoundBuffer (m : PlainModule) (number : ℕ) (v : PlainGlobal) : Type 0 where
  pub line : buffer_of m.types number v ≡ buffer_line number (size (buffer_type m.types v)) (alignment (buffer_type m.types v))
  pub leaves : Everywhere StrideOK (buffer_type m.types v) → LeavesOK (buffer_type m.types v)

-- it holds for each storage and each uniform buffer of a module
abbrev pub BuffersOK : PlainModule → Type 0
BuffersOK m = (number : ℕ) (v : PlainGlobal) → slice_get m.globals number ≡ Some v → IsTrue (is_buffer v.space) → IsSoundBuffer m number v

-- the leaves of a buffer's type are aligned, disjoint and in bounds
abbrev pub TypesAreSound : Type 0
TypesAreSound = (t : Tree) → IsBuffer t → LeavesOK t

-- if layouts are checked, the leaves of a valid module's buffers are
abbrev pub BuffersAreSound : Type 0
BuffersAreSound = (s : Settings) (resolved : Bool) (m : PlainModule) → Has s.flags.0 STRUCT_LAYOUTS.0 → ModuleOK s resolved m → GlobalsOK s.flags s.capabilities m → BuffersOK m
