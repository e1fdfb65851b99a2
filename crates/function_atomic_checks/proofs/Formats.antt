-- What storage images of a format allow.
use Rattle.std.proofs.Common.{◌≡◌, Some, subst, sym}
use Rattle.std.proofs.lemmas.Option.{same_Some}
use Rattle.ir_blocks.specs.declared.operations.AtomicFunction.{AtomicFunction}
use Rattle.ir_flags.specs.Sets.{Has}
use Rattle.ir_flags.specs.declared.settings.Capabilities.{Capabilities}
use Rattle.ir_flags.specs.declared.settings.TheConstants.Capabilities.{TEXTURE_ATOMIC, TEXTURE_INT64_ATOMIC}
use Rattle.ir_kinds.specs.judged.Images.{format_scalar}
use Rattle.ir_kinds.specs.declared.images.ImageClass.{ImageClass}
use Rattle.ir_kinds.specs.declared.images.ImageClass.TheVariants as class
use Rattle.ir_kinds.specs.declared.images.StorageFormat.{StorageFormat}
use Rattle.ir_kinds.specs.declared.images.StorageFormat.TheVariants as format
use Rattle.ir_kinds.specs.declared.scalars.VectorSize.TheVariants.{Quad}
use Rattle.function_atomic_checks.specs.StorageImages.{format_of}
use Rattle.spec_statements.specs.judged.StorageImages.{IsWritten, IsMinOrMax, IsDoneAtTexels, FormatAllows, wide, unsigned, signed}
use Rattle.typing_forms.specs.declared.form.Form.{Form}
use Rattle.typing_forms.specs.declared.form.Form.TheVariants as form

-- ---- values

-- a texel of the format is written
pub texel_written : (own : ImageClass) (of : StorageFormat) (value : Form) → format_of own ≡ Some of → value ≡ form.Vector Quad (format_scalar of) → IsWritten own value
texel_written (class.Sampled kind multi) of value is fits = absurd (let e = is in cc)
texel_written (class.Depth multi) of value is fits = absurd (let e = is in cc)
texel_written class.External of value is fits = absurd (let e = is in cc)
texel_written (class.Storage own access) of value is fits = let e = same_Some own of is in subst (λ x. value ≡ form.Vector Quad (format_scalar x)) (sym e) fits

-- ---- operations

pub wide_allowed : (k : Capabilities) (done : AtomicFunction) → Has k.0 TEXTURE_INT64_ATOMIC.0 → IsMinOrMax done → FormatAllows k done format.R64Uint
wide_allowed k done capable does = wide capable does

pub unsigned_allowed : (k : Capabilities) (done : AtomicFunction) → Has k.0 TEXTURE_ATOMIC.0 → IsDoneAtTexels done → FormatAllows k done format.R32Uint
unsigned_allowed k done capable does = unsigned capable does

pub signed_allowed : (k : Capabilities) (done : AtomicFunction) → Has k.0 TEXTURE_ATOMIC.0 → IsDoneAtTexels done → FormatAllows k done format.R32Sint
signed_allowed k done capable does = signed capable does
