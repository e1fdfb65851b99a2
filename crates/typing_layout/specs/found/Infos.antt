-- The meaning of a type's info.
use Rattle.std.specs.Prelude.{◌≡◌, ◌↔◌, List, MatchResult}
use Rattle.ir_flags.specs.Sets.{Has}
use Rattle.typing_forms.specs.IrTypes.{PlainType}
use Rattle.typing_layout.specs.judged.Buffers.{FitsStorageBuffer, FitsUniformBuffer, uniform_alignment}
use Rattle.typing_layout.specs.judged.Flags.{TypeFlag, bit, HasFlag}
use Rattle.typing_layout.specs.judged.Immediates.{FitsImmediates}
use Rattle.typing_layout.specs.judged.Layout.{alignment}
use Rattle.typing_layout.specs.judged.Tree.{Tree}
use Rattle.typing_layout.specs.found.BufferFaults.{BreaksStorage, BreaksUniform, IsBroken, IsUnfit}
use Rattle.typing_layout.specs.declared.type_flags.TypeFlags.{TypeFlags}
use Rattle.typing_layout.specs.declared.info.TypeInfo.{TypeInfo}

-- the bits are exactly the flags of a type
abbrev pub AreFlags : TypeFlags → Tree → Type 0
AreFlags set t = (f : TypeFlag) → Has set.0 (bit f) ↔ HasFlag f t

-- the info of a type of a module
pub record HasInfo (types : List PlainType) (t : Tree) (i : TypeInfo) : Type 0 where
  pub flags : AreFlags i.flags t
  pub storage : MatchResult i.storage_layout (λ a. FitsStorageBuffer t × (a ≡ alignment t)) (IsBroken BreaksStorage types t)
  pub uniform : MatchResult i.uniform_layout (λ a. FitsUniformBuffer t × (a ≡ uniform_alignment t)) (IsBroken BreaksUniform types t)
  pub immediates : MatchResult i.immediates_compatibility (λ _. FitsImmediates t) (IsUnfit t)
