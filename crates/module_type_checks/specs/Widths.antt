-- Parts of the checks of scalar types.
use Rattle.std.specs.Prelude.{◌≡◌, ◌≢◌}
use Rattle.ir_flags.specs.declared.settings.Capabilities.{Capabilities}
use Rattle.ir_kinds.specs.judged.Values.{literal_scalar}
use Rattle.ir_kinds.specs.declared.scalars.Scalar.{Scalar}
use Rattle.ir_kinds.specs.declared.values.Literal.{Literal}
use Rattle.typing_layout.specs.found.Faults.{IsNoWidth, RequiresFor, Lacks, IsWidthFault, LacksWideAtomics}
use Rattle.typing_layout.specs.declared.type_error.LiteralError.{LiteralError}
use Rattle.typing_layout.specs.declared.type_error.LiteralError.TheVariants as literal_error
use Rattle.typing_layout.specs.declared.type_error.TypeError.{TypeError}
use Rattle.typing_layout.specs.declared.type_error.TypeError.TheVariants as error
use Rattle.typing_layout.specs.declared.type_error.WidthError.{WidthError}
use Rattle.typing_layout.specs.declared.type_error.WidthError.TheVariants as width

-- a number of an invalid width, or without the capability for its width
abbrev pub IsWideFault : Capabilities → (two eight : Capabilities) → Scalar → WidthError → Type 0
IsWideFault capabilities two eight s (width.Invalid k bytes) = (k ≡ s.kind) × (bytes ≡ s.width) × IsNoWidth s.width
IsWideFault capabilities two eight s (width.MissingCapability c) = RequiresFor two eight s.width c × Lacks capabilities c
IsWideFault capabilities two eight s width.Abstract = ⊥

abbrev pub IsLiteralFault : Capabilities → Literal → LiteralError → Type 0
IsLiteralFault capabilities literal (literal_error.Width e) = IsWidthFault capabilities (literal_scalar literal) e

abbrev pub IsAtomicIntegerFault : Capabilities → Scalar → TypeError → Type 0
IsAtomicIntegerFault capabilities s (error.InvalidAtomicWidth k bytes) = (k ≡ s.kind) × (bytes ≡ s.width) × (s.width ≢ 4) × (s.width ≢ 8)
IsAtomicIntegerFault capabilities s (error.MissingCapability c) = LacksWideAtomics capabilities s.width c
IsAtomicIntegerFault capabilities s _ = ⊥
