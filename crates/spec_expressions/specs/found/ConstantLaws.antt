-- Laws of valid global expressions, constants and overrides.
use Rattle.std.specs.Prelude.{ℕ, Bool, true, false}
use Rattle.ir_flags.specs.Sets.{IsWithin}
use Rattle.ir_flags.specs.declared.settings.Capabilities.{Capabilities}
use Rattle.ir_items.specs.judged.Plain.{PlainModule}
use Rattle.spec_expressions.specs.judged.GlobalExpressions.{GlobalExpressionOK}
use Rattle.spec_expressions.specs.judged.Overrides.{OverrideOK}

-- what a smaller set of capabilities accepts, a larger one accepts; constants and overrides need no capability
abbrev pub MoreCapabilities : Type 0
MoreCapabilities = (few many : Capabilities) → IsWithin few.0 many.0 → (resolved : Bool) (m : PlainModule) (handle : ℕ) → GlobalExpressionOK few resolved m handle
    → GlobalExpressionOK many resolved m handle

-- what is valid with overrides resolved is valid without
abbrev pub ResolvedExpressions : Type 0
ResolvedExpressions = (capabilities : Capabilities) (m : PlainModule) (handle : ℕ) → GlobalExpressionOK capabilities true m handle
    → GlobalExpressionOK capabilities false m handle

abbrev pub ResolvedOverrides : Type 0
ResolvedOverrides = (m : PlainModule) (handle : ℕ) → OverrideOK true m handle → OverrideOK false m handle
