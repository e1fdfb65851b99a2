-- Image stores and image atomics.
use Rattle.std.specs.Prelude.{◌≡◌, ℕ, List, Option, Some, None, IsSomeAnd, option_and_then}
use Rattle.std.specs.Option.{option_or}
use Rattle.ir_blocks.specs.declared.operations.AtomicFunction.{AtomicFunction}
use Rattle.ir_blocks.specs.declared.operations.AtomicFunction.TheVariants as fun
use Rattle.ir_flags.specs.Sets.{Has}
use Rattle.ir_flags.specs.declared.memory.StorageAccess.{StorageAccess}
use Rattle.ir_flags.specs.declared.memory.TheConstants.StorageAccess.{ATOMIC}
use Rattle.ir_flags.specs.declared.settings.Capabilities.{Capabilities}
use Rattle.ir_flags.specs.declared.settings.TheConstants.Capabilities.{TEXTURE_ATOMIC, TEXTURE_INT64_ATOMIC}
use Rattle.ir_kinds.specs.judged.Images.{format_scalar}
use Rattle.ir_kinds.specs.declared.images.ImageClass.{ImageClass}
use Rattle.ir_kinds.specs.declared.images.ImageClass.TheVariants as class
use Rattle.ir_kinds.specs.declared.images.StorageFormat.{StorageFormat}
use Rattle.ir_kinds.specs.declared.images.StorageFormat.TheVariants as format
use Rattle.ir_kinds.specs.declared.scalars.VectorSize.TheVariants.{Quad}
use Rattle.ir_types.specs.judged.Plain.{PlainType}
use Rattle.spec_expressions.specs.IrItems.{PlainFunction, PlainModule}
use Rattle.spec_expressions.specs.TypingForms.{form_of_type, Form}
use Rattle.spec_expressions.specs.TypingForms.form as form
use Rattle.spec_statements.specs.judged.ImageLoads.{IsTexelCoordinate}
use Rattle.spec_statements.specs.judged.Shapes.{ExactlyIf, IsIntegerScalar, image_type_of}
use Rattle.spec_statements.specs.declared.shapes.ImageType.{ImageType}
use Rattle.spec_statements.specs.judged.BlockContext.{BlockContext, form_at}
use Rattle.spec_statements.specs.judged.Variables.{variable_at, accessed_at}

-- ---- the image

-- the element type of a binding array
abbrev pub resource_of : Form → Option ℕ
resource_of t = elim t [ form.BindingArray base size ↦ Some base | _ ↦ None ]

-- an image store is to a global variable that is an image, or to an element of a binding array of images
abbrev pub written_image : PlainModule → PlainFunction → (image : ℕ) → Option ImageType
written_image m f image = option_or (option_and_then (λ g. image_type_of (form_of_type m.types g.ty)) (variable_at m f image))
    (option_and_then (λ g. option_and_then (λ r. image_type_of (form_of_type m.types r)) (resource_of (form_of_type m.types g.ty))) (accessed_at m f image))

-- a binding array of images counts as one of its elements
abbrev pub image_type_in : List PlainType → Form → Option ℕ → Option ImageType
image_type_in types t o = elim o [ Some resource ↦ image_type_of (form_of_type types resource) | None ↦ image_type_of t ]

-- an image atomic is on a global variable, or an element of one, that is an image or a binding array of images
abbrev pub changed_image : PlainModule → PlainFunction → (image : ℕ) → Option ImageType
changed_image m f image = option_and_then (λ g. image_type_in m.types (form_of_type m.types g.ty) (resource_of (form_of_type m.types g.ty)))
    (option_or (variable_at m f image) (accessed_at m f image))

-- ---- the texel

-- A texel of the image: its coordinate, and an array index exactly if it is arrayed.
pub record IsTexelOf (c : BlockContext) (image : ImageType) (coordinate : ℕ) (array_index : Option ℕ) : Type 0 where
  pub flat : IsTexelCoordinate image.dim (form_at c coordinate)
  pub layer : ExactlyIf image.arrayed array_index (λ layer. IsIntegerScalar (form_at c layer))

-- a value of the storage format
abbrev pub IsWritten : ImageClass → (value : Form) → Type 0
IsWritten o value = elim o [ class.Storage format access ↦ value ≡ form.Vector Quad (format_scalar format) | _ ↦ ⊥ ]

abbrev pub ImageStoreOK : BlockContext → (image coordinate : ℕ) → (array_index : Option ℕ) → (value : ℕ) → Type 0
ImageStoreOK c image coordinate array_index value =
    IsSomeAnd (written_image c.m c.f image) (λ image_type. IsTexelOf c image_type coordinate array_index × IsWritten image_type.class (form_at c value))

-- ---- the operation

abbrev pub IsMinOrMax : AtomicFunction → Type 0
IsMinOrMax done = elim done [ fun.Min ↦ Unit {0} | fun.Max ↦ Unit {0} | _ ↦ ⊥ ]

-- all but subtraction and exchange
abbrev pub IsDoneAtTexels : AtomicFunction → Type 0
IsDoneAtTexels fun.Add = Unit {0}
IsDoneAtTexels fun.And = Unit {0}
IsDoneAtTexels fun.ExclusiveOr = Unit {0}
IsDoneAtTexels fun.InclusiveOr = Unit {0}
IsDoneAtTexels fun.Min = Unit {0}
IsDoneAtTexels fun.Max = Unit {0}
IsDoneAtTexels _ = ⊥

-- The atomic operations on a format, with the required capability.
pub data FormatAllows (capabilities : Capabilities) (done : AtomicFunction) : StorageFormat → Type 0 where
  wide : Has capabilities.0 TEXTURE_INT64_ATOMIC.0 → IsMinOrMax done → FormatAllows capabilities done format.R64Uint
  unsigned : Has capabilities.0 TEXTURE_ATOMIC.0 → IsDoneAtTexels done → FormatAllows capabilities done format.R32Uint
  signed : Has capabilities.0 TEXTURE_ATOMIC.0 → IsDoneAtTexels done → FormatAllows capabilities done format.R32Sint

-- The image allows the atomic operation with the value.
pub record IsChangedBy (capabilities : Capabilities) (format : StorageFormat) (access : StorageAccess) (done : AtomicFunction) (value : Form) : Type 0 where
  pub atomic : Has access.0 ATOMIC.0
  pub allowed : FormatAllows capabilities done format
  pub fits : value ≡ form.Scalar (format_scalar format)

abbrev pub IsChanged : Capabilities → ImageClass → AtomicFunction → (value : Form) → Type 0
IsChanged capabilities o done value = elim o [ class.Storage format access ↦ IsChangedBy capabilities format access done value | _ ↦ ⊥ ]

abbrev pub ImageAtomicOK : BlockContext → (image coordinate : ℕ) → (array_index : Option ℕ) → AtomicFunction → (value : ℕ) → Type 0
ImageAtomicOK c image coordinate array_index done value = IsSomeAnd (changed_image c.m c.f image)
    (λ image_type. IsTexelOf c image_type coordinate array_index × IsChanged c.capabilities image_type.class done (form_at c value))
