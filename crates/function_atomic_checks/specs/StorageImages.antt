-- Errors of image stores and atomic operations on texels.
use Rattle.std.specs.Prelude.{◌≡◌, ◌⊎◌, ℕ, List, [], Option, Some, None, IsSomeAnd}
use Rattle.std.specs.Option.{option_or}
use Rattle.typing_errors.specs.declared.expressions.ExpressionError.{ExpressionError}
use Rattle.typing_errors.specs.declared.expressions.ExpressionError.TheVariants as fault
use Rattle.typing_errors.specs.declared.error.FunctionError.{FunctionError}
use Rattle.typing_errors.specs.declared.error.FunctionError.TheVariants as error
use Rattle.ir_blocks.specs.declared.operations.AtomicFunction.{AtomicFunction}
use Rattle.ir_types.specs.found.Faults.{error_of, spans_of}
use Rattle.ir_types.specs.declared.refusal.Refusal.{Refusal}
use Rattle.ir_types.specs.declared.refusal.Refusal.TheVariants as refusal
use Rattle.ir_flags.specs.Sets.{Has}
use Rattle.ir_flags.specs.declared.memory.StorageAccess.{StorageAccess}
use Rattle.ir_flags.specs.declared.memory.TheConstants.StorageAccess.{ATOMIC}
use Rattle.ir_flags.specs.declared.settings.Capabilities.{Capabilities}
use Rattle.ir_flags.specs.declared.settings.TheConstants.Capabilities.{TEXTURE_ATOMIC, TEXTURE_INT64_ATOMIC}
use Rattle.ir_kinds.specs.judged.Images.{format_scalar}
use Rattle.ir_kinds.specs.declared.images.ImageClass.{ImageClass}
use Rattle.ir_kinds.specs.declared.images.ImageClass.TheVariants as class
use Rattle.ir_kinds.specs.declared.images.StorageFormat.{StorageFormat}
use Rattle.ir_kinds.specs.declared.images.StorageFormat.TheVariants as format
use Rattle.ir_kinds.specs.declared.scalars.VectorSize.TheVariants.{Quad}
use Rattle.ir_types.specs.judged.Plain.{PlainInner, plain, PlainType, inner_view}
use Rattle.ir_types.specs.declared.types.TypeInner.TheVariants as inner
use Rattle.spec_statements.specs.judged.ImageLoads.{IsTexelCoordinate}
use Rattle.spec_statements.specs.judged.Shapes.{ExactlyIf, IsIntegerScalar, image_type_of}
use Rattle.spec_statements.specs.declared.shapes.ImageType.{ImageType}
use Rattle.spec_statements.specs.judged.BlockContext.{BlockContext, form_at}
use Rattle.spec_statements.specs.judged.StorageImages.{resource_of, written_image, image_type_in, changed_image, IsMinOrMax, IsDoneAtTexels}
use Rattle.spec_statements.specs.judged.Variables.{variable_at, accessed_at}
use Rattle.typing_forms.specs.judged.Forms.{form_of_type}
use Rattle.typing_forms.specs.judged.Resolutions.{inner_at}
use Rattle.typing_forms.specs.declared.form.Form.{Form}
use Rattle.typing_forms.specs.declared.form.Form.TheVariants as form

-- ---- the image

-- an element of a global variable that is not a binding array, or not one of images
abbrev pub IsElementFault : List PlainType → (type : ℕ) → ExpressionError → Type 0
IsElementFault types type (fault.ExpectedBindingArrayType e) = (e ≡ type) × (resource_of (form_of_type types type) ≡ None)
IsElementFault types type (fault.ExpectedImageType e) =
    (e ≡ type) × IsSomeAnd (resource_of (form_of_type types type)) (λ r. image_type_of (form_of_type types r) ≡ None)
IsElementFault types type _ = ⊥

-- not a global variable, or not an image
abbrev pub IsNamedFault : BlockContext → (image : ℕ) → ExpressionError → Type 0
IsNamedFault c image fault.ExpectedGlobalVariable = (variable_at c.m c.f image ≡ None) × (accessed_at c.m c.f image ≡ None)
IsNamedFault c image (fault.ExpectedImageType e) =
    IsSomeAnd (variable_at c.m c.f image) (λ g. (e ≡ g.ty) × (image_type_of (form_of_type c.m.types g.ty) ≡ None))
IsNamedFault c image _ = ⊥

abbrev pub IsWrittenImageFault : BlockContext → (image : ℕ) → ExpressionError → Type 0
IsWrittenImageFault c image e = IsNamedFault c image e ⊎ IsSomeAnd (accessed_at c.m c.f image) (λ g. IsElementFault c.m.types g.ty e)

-- the type of a global variable is neither an image nor a binding array of images
abbrev pub IsChangedImageFault : BlockContext → (image : ℕ) → ExpressionError → Type 0
IsChangedImageFault c image fault.ExpectedGlobalVariable = option_or (variable_at c.m c.f image) (accessed_at c.m c.f image) ≡ None
IsChangedImageFault c image (fault.ExpectedImageType e) = IsSomeAnd (option_or (variable_at c.m c.f image) (accessed_at c.m c.f image))
    (λ g. (e ≡ g.ty) × (image_type_in c.m.types (form_of_type c.m.types g.ty) (resource_of (form_of_type c.m.types g.ty)) ≡ None))
IsChangedImageFault c image _ = ⊥

-- ---- the texel

abbrev pub IsTexelFault : BlockContext → ImageType → (coordinate : ℕ) → (array_index : Option ℕ) → ExpressionError → Type 0
IsTexelFault c image_type coordinate array_index (fault.InvalidImageCoordinateType dim e) =
    (dim ≡ image_type.dim) × (e ≡ coordinate) × ¬ IsTexelCoordinate image_type.dim (form_at c coordinate)
IsTexelFault c image_type coordinate array_index fault.InvalidImageArrayIndex = ¬ ExactlyIf image_type.arrayed array_index (λ layer. Unit {0})
IsTexelFault c image_type coordinate array_index (fault.InvalidImageArrayIndexType e) = (array_index ≡ Some e) × ¬ IsIntegerScalar (form_at c e)
IsTexelFault c image_type coordinate array_index _ = ⊥

-- ---- the stored value

-- the format of a storage image
abbrev pub format_of : ImageClass → Option StorageFormat
format_of (class.Sampled kind multi) = None
format_of (class.Depth multi) = None
format_of class.External = None
format_of (class.Storage format access) = Some format

abbrev pub IsClassFault : ImageClass → ExpressionError → Type 0
IsClassFault own (fault.InvalidImageClass e) = (e ≡ own) × (format_of own ≡ None)
IsClassFault own _ = ⊥

abbrev pub IsPlaceFault : BlockContext → (image coordinate : ℕ) → (array_index : Option ℕ) → ExpressionError → Type 0
IsPlaceFault c image coordinate array_index e = IsWrittenImageFault c image e
    ⊎ IsSomeAnd (written_image c.m c.f image) (λ image_type. IsClassFault image_type.class e ⊎ IsTexelFault c image_type coordinate array_index e)

-- the image has the format, and the value does not fit it
abbrev pub IsMisfit : BlockContext → (image value : ℕ) → StorageFormat → Type 0
IsMisfit c image value format =
    IsSomeAnd (written_image c.m c.f image) (λ image_type. format_of image_type.class ≡ Some format) × ¬ (form_at c value ≡ form.Vector Quad (format_scalar format))

-- ---- the types of values in errors

-- the inner type of a matrix of either kind
abbrev pub matrix_inner : Form → Option PlainInner
matrix_inner (form.Matrix columns rows s) = Some (plain (inner.Matrix columns rows s))
matrix_inner (form.CooperativeMatrix columns rows s role) = Some (plain (inner.CooperativeMatrix columns rows s role))
matrix_inner _ = None

-- the inner type, if it is a type
abbrev pub inner_of_form : List PlainType → Form → Option PlainInner
inner_of_form types (form.Scalar s) = Some (plain (inner.Scalar s))
inner_of_form types (form.Vector n s) = Some (plain (inner.Vector n s))
inner_of_form types (form.Matrix columns rows s) = matrix_inner (form.Matrix columns rows s)
inner_of_form types (form.CooperativeMatrix columns rows s role) = matrix_inner (form.CooperativeMatrix columns rows s role)
inner_of_form types (form.Atomic s) = Some (plain (inner.Atomic s))
inner_of_form types (form.Pointer base space) = Some (plain (inner.Pointer base space))
inner_of_form types (form.ValuePointer n s space) = Some (plain (inner.ValuePointer n s space))
inner_of_form types (form.Array base size stride) = Some (plain (inner.Array base size stride))
inner_of_form types (form.Struct handle) = inner_at types handle
inner_of_form types (form.Image dim arrayed class) = Some (plain (inner.Image dim arrayed class))
inner_of_form types (form.Sampler comparison) = Some (plain (inner.Sampler comparison))
inner_of_form types (form.AccelerationStructure vertex_return) = Some (plain (inner.AccelerationStructure vertex_return))
inner_of_form types (form.RayQuery vertex_return) = Some (plain (inner.RayQuery vertex_return))
inner_of_form types (form.BindingArray base size) = Some (plain (inner.BindingArray base size))
inner_of_form types form.Nothing = None

abbrev pub IsUntypedFault : BlockContext → (value : ℕ) → ExpressionError → Type 0
IsUntypedFault c value fault.Other = inner_of_form c.m.types (form_at c value) ≡ None
IsUntypedFault c value _ = ⊥

-- the value has another type than the format's texels; one without a type is refused without a name
abbrev pub IsValueFault : BlockContext → (value : ℕ) → StorageFormat → FunctionError → Type 0
IsValueFault c value format (error.InvalidStoreValue actual actual_ty expected_ty) = (actual ≡ value)
    × (inner_of_form c.m.types (form_at c value) ≡ Some (inner_view actual_ty)) × (inner_view expected_ty ≡ plain (inner.Vector Quad (format_scalar format)))
IsValueFault c value format (error.InvalidImageStore e) = IsUntypedFault c value e
IsValueFault c value format _ = ⊥

-- ---- stores

abbrev pub IsWrongPlace : BlockContext → (image coordinate : ℕ) → (array_index : Option ℕ) → FunctionError → Type 0
IsWrongPlace c image coordinate array_index (error.InvalidImageStore e) = IsPlaceFault c image coordinate array_index e
IsWrongPlace c image coordinate array_index _ = ⊥

abbrev pub IsImageStoreFault : BlockContext → (image coordinate : ℕ) → (array_index : Option ℕ) → (value : ℕ) → FunctionError → Type 0
IsImageStoreFault c image coordinate array_index value e =
    IsWrongPlace c image coordinate array_index e ⊎ ((format : StorageFormat) × IsMisfit c image value format × IsValueFault c value format e)

-- there is no memory for the type of the value
abbrev pub IsImageStoreRefusal : BlockContext → (image coordinate : ℕ) → (array_index : Option ℕ) → (value : ℕ) → Refusal FunctionError → Type 0
IsImageStoreRefusal c image coordinate array_index value (refusal.Memory e) = (format : StorageFormat) × IsMisfit c image value format
IsImageStoreRefusal c image coordinate array_index value (refusal.Fault f) =
    IsImageStoreFault c image coordinate array_index value (error_of f) × (spans_of f ≡ [])

-- ---- atomic operations on texels

abbrev pub IsWideFault : Capabilities → AtomicFunction → FunctionError → Type 0
IsWideFault capabilities done (error.MissingCapability missing) = (missing ≡ TEXTURE_INT64_ATOMIC) × ¬ Has capabilities.0 TEXTURE_INT64_ATOMIC.0
IsWideFault capabilities done (error.InvalidImageAtomicFunction fun) = (fun ≡ done) × ¬ IsMinOrMax done
IsWideFault capabilities done _ = ⊥

abbrev pub IsNarrowFault : Capabilities → AtomicFunction → FunctionError → Type 0
IsNarrowFault capabilities done (error.MissingCapability missing) = (missing ≡ TEXTURE_ATOMIC) × ¬ Has capabilities.0 TEXTURE_ATOMIC.0
IsNarrowFault capabilities done (error.InvalidImageAtomicFunction fun) = (fun ≡ done) × ¬ IsDoneAtTexels done
IsNarrowFault capabilities done _ = ⊥

abbrev pub IsFormat : StorageFormat → ExpressionError → Type 0
IsFormat own (fault.InvalidImageFormat e) = e ≡ own
IsFormat own _ = ⊥

abbrev pub IsOtherFormat : StorageFormat → FunctionError → Type 0
IsOtherFormat own (error.InvalidImageAtomic e) = IsFormat own e
IsOtherFormat own _ = ⊥

abbrev pub IsFormatFault : Capabilities → AtomicFunction → StorageFormat → FunctionError → Type 0
IsFormatFault capabilities done format.R64Uint e = IsWideFault capabilities done e
IsFormatFault capabilities done format.R32Uint e = IsNarrowFault capabilities done e
IsFormatFault capabilities done format.R32Sint e = IsNarrowFault capabilities done e
IsFormatFault capabilities done other e = IsOtherFormat other e

abbrev pub IsAccess : StorageAccess → ExpressionError → Type 0
IsAccess own (fault.InvalidImageStorageAccess e) = (e ≡ own) × ¬ Has own.0 ATOMIC.0
IsAccess own _ = ⊥

abbrev pub IsOperandFault : BlockContext → StorageFormat → StorageAccess → (value : ℕ) → FunctionError → Type 0
IsOperandFault c format access value (error.InvalidImageAtomic e) = IsAccess access e
IsOperandFault c format access value (error.InvalidImageAtomicValue e) = (e ≡ value) × ¬ (form_at c value ≡ form.Scalar (format_scalar format))
IsOperandFault c format access value _ = ⊥

abbrev pub IsStorageFault : BlockContext → StorageFormat → StorageAccess → AtomicFunction → (value : ℕ) → FunctionError → Type 0
IsStorageFault c format access done value e = IsOperandFault c format access value e ⊎ IsFormatFault c.capabilities done format e

abbrev pub IsOtherClass : ImageClass → FunctionError → Type 0
IsOtherClass own (error.InvalidImageAtomic e) = IsClassFault own e
IsOtherClass own _ = ⊥

abbrev pub IsChangeFault : BlockContext → ImageClass → AtomicFunction → (value : ℕ) → FunctionError → Type 0
IsChangeFault c (class.Storage format access) done value e = IsStorageFault c format access done value e
IsChangeFault c (class.Sampled kind multi) done value e = IsOtherClass (class.Sampled kind multi) e
IsChangeFault c (class.Depth multi) done value e = IsOtherClass (class.Depth multi) e
IsChangeFault c class.External done value e = IsOtherClass class.External e

abbrev pub IsWrongTexel : BlockContext → (image coordinate : ℕ) → (array_index : Option ℕ) → FunctionError → Type 0
IsWrongTexel c image coordinate array_index (error.InvalidImageAtomic e) = IsChangedImageFault c image e
    ⊎ IsSomeAnd (changed_image c.m c.f image) (λ image_type. IsTexelFault c image_type coordinate array_index e)
IsWrongTexel c image coordinate array_index _ = ⊥

abbrev pub IsImageAtomicFault : BlockContext → (image coordinate : ℕ) → (array_index : Option ℕ) → AtomicFunction → (value : ℕ) → FunctionError → Type 0
IsImageAtomicFault c image coordinate array_index done value e = IsWrongTexel c image coordinate array_index e
    ⊎ IsSomeAnd (changed_image c.m c.f image) (λ image_type. IsChangeFault c image_type.class done value e)
