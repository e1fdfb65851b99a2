-- Laws of valid types.
use Rattle.std.specs.Prelude.{ℕ, List, Bool}
use Rattle.ir_flags.specs.Sets.{IsWithin}
use Rattle.ir_flags.specs.declared.settings.Capabilities.{Capabilities}
use Rattle.typing_forms.specs.IrTypes.{PlainType}
use Rattle.typing_layout.specs.judged.Rules.{TypeOK}

-- what a smaller set of capabilities accepts, a larger one accepts
abbrev pub MoreCapabilities : Type 0
MoreCapabilities =
    (few many : Capabilities) → IsWithin few.0 many.0 → (resolved : Bool) (types : List PlainType) (handle : ℕ) → TypeOK few resolved types handle
    → TypeOK many resolved types handle
