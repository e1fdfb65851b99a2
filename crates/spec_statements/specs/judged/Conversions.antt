-- Valid conversions.
use Rattle.std.specs.Prelude.{◌≢◌, ℕ, Option, Some, None, IsSomeAnd}
use Rattle.ir_flags.specs.declared.settings.Capabilities.{Capabilities}
use Rattle.ir_kinds.specs.declared.scalars.Scalar.{Scalar}
use Rattle.ir_kinds.specs.declared.scalars.ScalarKind.{ScalarKind}
use Rattle.ir_kinds.specs.declared.scalars.ScalarKind.TheVariants.{Bool}
use Rattle.spec_expressions.specs.TypingForms.{Form}
use Rattle.spec_expressions.specs.judged.Conversions.{converted}
use Rattle.typing_layout.specs.judged.Widths.{ScalarOK}
use Rattle.spec_statements.specs.judged.Shapes.{shaped_of}

-- the target scalar is valid; a bit cast is neither from bools nor to them
abbrev pub IsConverted : Capabilities → ScalarKind → (convert : Option ℕ) → Scalar → Type 0
IsConverted capabilities kind (Some width) s = ScalarOK capabilities (converted kind (Some width) s)
IsConverted capabilities kind None s = (kind ≢ Bool) × (s.kind ≢ Bool)

abbrev pub AsOK : Capabilities → ScalarKind → (convert : Option ℕ) → (of : Form) → Type 0
AsOK capabilities kind convert of = IsSomeAnd (shaped_of of) (λ x. IsConverted capabilities kind convert x.scalar)
