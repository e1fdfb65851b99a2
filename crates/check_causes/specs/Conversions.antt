-- The broken rules of conversions.
use Rattle.std.specs.Prelude.{◌≡◌, ℕ, Option, None, IsSomeAnd}
use Rattle.ir_flags.specs.declared.settings.Capabilities.{Capabilities}
use Rattle.ir_kinds.specs.declared.scalars.Scalar.{Scalar}
use Rattle.ir_kinds.specs.declared.scalars.ScalarKind.{ScalarKind}
use Rattle.ir_kinds.specs.declared.scalars.ScalarKind.TheVariants.{Bool}
use Rattle.typing_forms.specs.declared.form.Form.{Form}
use Rattle.typing_layout.specs.judged.Widths.{ScalarOK}
use Rattle.spec_statements.specs.judged.Shapes.{shaped_of}
use Rattle.check_causes.specs.declared.conversions.AsCause.{AsCause}
use Rattle.check_causes.specs.declared.conversions.AsCause.TheVariants.{NoScalars, NoScalar, ToBool, FromBool}

abbrev pub BrokenConversion : Capabilities → ScalarKind → (convert : Option ℕ) → Scalar → AsCause → Type 0
BrokenConversion capabilities kind convert s (NoScalars given) = ⊥
BrokenConversion capabilities kind convert s (NoScalar wanted) = IsSomeAnd convert (λ width. wanted ≡ record { kind = kind; width = width }) × ¬ ScalarOK capabilities wanted
BrokenConversion capabilities kind convert s ToBool = (convert ≡ None) × (kind ≡ Bool)
BrokenConversion capabilities kind convert s FromBool = (convert ≡ None) × (s.kind ≡ Bool)

abbrev pub BrokenAs : Capabilities → ScalarKind → (convert : Option ℕ) → (of : Form) → AsCause → Type 0
BrokenAs capabilities kind convert of (NoScalars given) = (given ≡ of) × (shaped_of of ≡ None)
BrokenAs capabilities kind convert of (NoScalar wanted) = IsSomeAnd (shaped_of of) (λ x. BrokenConversion capabilities kind convert x.scalar (NoScalar wanted))
BrokenAs capabilities kind convert of ToBool = IsSomeAnd (shaped_of of) (λ x. BrokenConversion capabilities kind convert x.scalar ToBool)
BrokenAs capabilities kind convert of FromBool = IsSomeAnd (shaped_of of) (λ x. BrokenConversion capabilities kind convert x.scalar FromBool)
