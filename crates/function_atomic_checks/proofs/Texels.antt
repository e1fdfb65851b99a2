-- What writes a texel or changes one atomically with a fault does not meet its rule.
use Rattle.std.proofs.Common.{◌≡◌, ◌⊎◌, ℕ, List, Option, Some, None, Bool, true, false, IsSomeAnd, inl, inr, slice_get, refl, ap, subst}
use Rattle.std.specs.Prelude.{option_and_then}
use Rattle.std.specs.Option.{option_or}
use Rattle.function_atomic_checks.specs.StorageImages.{IsElementFault, IsWrittenImageFault, IsChangedImageFault, IsTexelFault, format_of, IsClassFault, IsPlaceFault, IsMisfit, IsImageStoreFault, IsWideFault, IsNarrowFault, IsFormatFault, IsAccess, IsOperandFault, IsStorageFault, IsChangeFault, IsWrongTexel, IsImageAtomicFault}
use Rattle.function_atomic_checks.proofs.Present.{missing, both}
use Rattle.typing_errors.specs.declared.expressions.ExpressionError.{ExpressionError}
use Rattle.typing_errors.specs.declared.expressions.ExpressionError.TheVariants as fault
use Rattle.typing_errors.specs.declared.error.FunctionError.{FunctionError}
use Rattle.typing_errors.specs.declared.error.FunctionError.TheVariants as error
use Rattle.ir_blocks.specs.declared.operations.AtomicFunction.{AtomicFunction}
use Rattle.ir_types.specs.judged.ExpressionPlain.{PlainExpression, plain}
use Rattle.ir_types.specs.declared.expressions.Expression.TheVariants.{GlobalVariable}
use Rattle.ir_flags.specs.Sets.{Has}
use Rattle.ir_flags.specs.declared.memory.StorageAccess.{StorageAccess}
use Rattle.ir_flags.specs.declared.settings.Capabilities.{Capabilities}
use Rattle.ir_flags.specs.declared.settings.TheConstants.Capabilities.{TEXTURE_ATOMIC, TEXTURE_INT64_ATOMIC}
use Rattle.ir_items.specs.judged.GlobalPlain.{PlainGlobal}
use Rattle.ir_items.specs.judged.Plain.{PlainFunction, PlainModule}
use Rattle.ir_kinds.specs.judged.Images.{format_scalar}
use Rattle.ir_kinds.specs.declared.images.ImageClass.{ImageClass}
use Rattle.ir_kinds.specs.declared.images.ImageClass.TheVariants as class
use Rattle.ir_kinds.specs.declared.images.StorageFormat.{StorageFormat}
use Rattle.ir_kinds.specs.declared.scalars.VectorSize.TheVariants.{Quad}
use Rattle.ir_types.specs.judged.Plain.{PlainType}
use Rattle.ir_items.specs.judged.Bases.{base_of, global_of}
use Rattle.spec_statements.specs.judged.Shapes.{ExactlyIf, image_type_of}
use Rattle.spec_statements.specs.declared.shapes.ImageType.{ImageType}
use Rattle.spec_statements.specs.judged.BlockContext.{BlockContext, form_at}
use Rattle.spec_statements.specs.judged.StorageImages.{resource_of, written_image, image_type_in, changed_image, IsTexelOf, IsWritten, ImageStoreOK, IsMinOrMax, IsDoneAtTexels, FormatAllows, wide, unsigned, signed, IsChangedBy, IsChanged, ImageAtomicOK}
use Rattle.spec_statements.specs.judged.Variables.{variable_at, accessed_at}
use Rattle.typing_forms.specs.judged.Forms.{form_of_type}
use Rattle.typing_forms.specs.declared.form.Form.{Form}
use Rattle.typing_forms.specs.declared.form.Form.TheVariants as form

-- ---- the image

-- no expression is a global variable and an access
one_of : (o : Option PlainExpression) → (option_and_then global_of o ≡ None) ⊎ (option_and_then base_of o ≡ None)
one_of None = inl refl
one_of (Some (plain (GlobalVariable g))) = inr refl
one_of (Some _) = inl refl

one_variable : (m : PlainModule) (f : PlainFunction) (image : ℕ) → (variable_at m f image ≡ None) ⊎ (accessed_at m f image ≡ None)
one_variable m f image =
    elim (one_of (slice_get f.expressions image)) [
      | inl none ↦ inl (ap (option_and_then (slice_get m.globals)) none)
      | inr none ↦ inr (ap (option_and_then (variable_at m f)) none)
    ]

-- the image of a variable that is one, or else of an element
module _ (P Q : PlainGlobal → Option ImageType) where
  neither : (v a : Option PlainGlobal) → v ≡ None → a ≡ None → option_or (option_and_then P v) (option_and_then Q a) ≡ None
  neither None None v a = refl
  neither None (Some g) v a = absurd (let e = a in cc)
  neither (Some g) a is other = absurd (let e = is in cc)

  no_variable : (v a : Option PlainGlobal) → IsSomeAnd v (λ g. P g ≡ None) → (v ≡ None) ⊎ (a ≡ None) → option_or (option_and_then P v) (option_and_then Q a) ≡ None
  no_variable None a none apart = absurd none
  no_variable (Some g) a none (inl e) = absurd (let x = e in cc)
  no_variable (Some g) a none (inr e) = rw none (rw e refl)

  no_element : (v a : Option PlainGlobal) → IsSomeAnd a (λ g. Q g ≡ None) → (v ≡ None) ⊎ (a ≡ None) → option_or (option_and_then P v) (option_and_then Q a) ≡ None
  no_element v None none apart = absurd none
  no_element v (Some g) none (inr e) = absurd (let x = e in cc)
  no_element v (Some g) none (inl e) = rw e none

-- it leads to no image
none_written : (c : BlockContext) (image : ℕ) (e : ExpressionError) → IsWrittenImageFault c image e → written_image c.m c.f image ≡ None
none_written c image fault.ExpectedGlobalVariable (inl wrong) = neither _ _ (variable_at c.m c.f image) (accessed_at c.m c.f image) wrong.0 wrong.1
none_written c image (fault.ExpectedImageType e) (inl wrong) = no_variable _ _ (variable_at c.m c.f image) (accessed_at c.m c.f image) (none (variable_at c.m c.f image) wrong) (one_variable c.m c.f image)
  where
    none : (o : Option PlainGlobal) → IsSomeAnd o (λ g. (e ≡ g.ty) × (image_type_of (form_of_type c.m.types g.ty) ≡ None)) → IsSomeAnd o (λ g. image_type_of (form_of_type c.m.types g.ty) ≡ None)
    none None h = h
    none (Some g) h = h.1
none_written c image _ (inl wrong) = absurd wrong
none_written c image e (inr wrong) = no_element _ _ (variable_at c.m c.f image) (accessed_at c.m c.f image) (each c.m.types e (accessed_at c.m c.f image) wrong) (one_variable c.m c.f image)
  where
    no_image_type : (types : List PlainType) (o : Option ℕ) → IsSomeAnd o (λ r. image_type_of (form_of_type types r) ≡ None) → option_and_then (λ r. image_type_of (form_of_type types r)) o ≡ None
    no_image_type types None h = refl
    no_image_type types (Some r) h = h

    element : (types : List PlainType) (e : ExpressionError) (type : ℕ) → IsElementFault types type e
        → option_and_then (λ r. image_type_of (form_of_type types r)) (resource_of (form_of_type types type)) ≡ None
    element types (fault.ExpectedBindingArrayType x) type h = ap (option_and_then (λ r. image_type_of (form_of_type types r))) h.1
    element types (fault.ExpectedImageType x) type h = no_image_type types (resource_of (form_of_type types type)) h.1
    element types _ type h = absurd h

    each : (types : List PlainType) (e : ExpressionError) (o : Option PlainGlobal) → IsSomeAnd o (λ g. IsElementFault types g.ty e)
        → IsSomeAnd o (λ g. option_and_then (λ r. image_type_of (form_of_type types r)) (resource_of (form_of_type types g.ty)) ≡ None)
    each types e None h = h
    each types e (Some g) h = element types e g.ty h

-- ---- the texel

-- what is there where it is wanted
is_there : (wanted : Bool) (o : Option ℕ) (P : ℕ → Type 0) → ExactlyIf wanted o P → ExactlyIf wanted o (λ x. Unit {0})
is_there true None P h = h
is_there true (Some x) P h = tt
is_there false None P h = tt
is_there false (Some x) P h = h

what_is_there : (wanted : Bool) (o : Option ℕ) (x : ℕ) (P : ℕ → Type 0) → o ≡ Some x → ExactlyIf wanted o P → P x
what_is_there wanted None x P is h = absurd (let e = is in cc)
what_is_there true (Some y) x P is h = let same : y ≡ x = (let e = is in cc) in subst P same h
what_is_there false (Some y) x P is h = absurd h

texel_refuted : (c : BlockContext) (image_type : ImageType) (coordinate : ℕ) (array_index : Option ℕ) (e : ExpressionError)
    → IsTexelFault c image_type coordinate array_index e → IsTexelOf c image_type coordinate array_index → ⊥
texel_refuted c image_type coordinate array_index (fault.InvalidImageCoordinateType dim x) wrong ok = wrong.2 ok.flat
texel_refuted c image_type coordinate array_index fault.InvalidImageArrayIndex wrong ok = wrong (is_there image_type.arrayed array_index _ ok.layer)
texel_refuted c image_type coordinate array_index (fault.InvalidImageArrayIndexType x) wrong ok = wrong.1 (what_is_there image_type.arrayed array_index x _ wrong.0 ok.layer)
texel_refuted c image_type coordinate array_index _ wrong ok = wrong

-- ---- what is written

class_refuted : (own : ImageClass) (value : Form) (e : ExpressionError) → IsClassFault own e → IsWritten own value → ⊥
class_refuted (class.Sampled kind multi) value e wrong ok = ok
class_refuted (class.Depth multi) value e wrong ok = ok
class_refuted class.External value e wrong ok = ok
class_refuted (class.Storage format access) value (fault.InvalidImageClass x) wrong ok = let none = wrong.1 in cc
class_refuted (class.Storage format access) value _ wrong ok = wrong

place_refuted : (c : BlockContext) (image coordinate : ℕ) (array_index : Option ℕ) (value : ℕ) (e : ExpressionError)
    → IsPlaceFault c image coordinate array_index e → ImageStoreOK c image coordinate array_index value → ⊥
place_refuted c image coordinate array_index value e (inl wrong) ok = missing (written_image c.m c.f image) _ (none_written c image e wrong) ok
place_refuted c image coordinate array_index value e (inr wrong) ok = both (written_image c.m c.f image) _ _ by wrong ok
  where
    by : (image_type : ImageType) → IsClassFault image_type.class e ⊎ IsTexelFault c image_type coordinate array_index e
        → IsTexelOf c image_type coordinate array_index × IsWritten image_type.class (form_at c value) → ⊥
    by image_type (inl wrong) ok = class_refuted image_type.class (form_at c value) e wrong ok.1
    by image_type (inr wrong) ok = texel_refuted c image_type coordinate array_index e wrong ok.0

-- what is written is a texel of the image's format
of_format : (own : ImageClass) (format : StorageFormat) (value : Form) → format_of own ≡ Some format → IsWritten own value → value ≡ form.Vector Quad (format_scalar format)
of_format (class.Sampled kind multi) format value is ok = absurd ok
of_format (class.Depth multi) format value is ok = absurd ok
of_format class.External format value is ok = absurd ok
of_format (class.Storage own access) format value is ok =
    let same : own ≡ format = (let e = is in cc) in subst (λ x. value ≡ form.Vector Quad (format_scalar x)) same ok

misfit_refuted : (c : BlockContext) (image coordinate : ℕ) (array_index : Option ℕ) (value : ℕ) (format : StorageFormat)
    → IsMisfit c image value format → ImageStoreOK c image coordinate array_index value → ⊥
misfit_refuted c image coordinate array_index value format wrong ok =
    both (written_image c.m c.f image) _ _ (λ image_type is fits. wrong.1 (of_format image_type.class format (form_at c value) is fits.1)) wrong.0 ok

pub store_refuted : (c : BlockContext) (image coordinate : ℕ) (array_index : Option ℕ) (value : ℕ) (e : FunctionError)
    → IsImageStoreFault c image coordinate array_index value e → ImageStoreOK c image coordinate array_index value → ⊥
store_refuted c image coordinate array_index value (error.InvalidImageStore e) (inl wrong) ok = place_refuted c image coordinate array_index value e wrong ok
store_refuted c image coordinate array_index value _ (inl wrong) ok = wrong
store_refuted c image coordinate array_index value e (inr wrong) ok = misfit_refuted c image coordinate array_index value wrong.0 wrong.1 ok

-- ---- what is changed atomically

wide_refuted : (k : Capabilities) (done : AtomicFunction) (e : FunctionError) → IsWideFault k done e → Has k.0 TEXTURE_INT64_ATOMIC.0 → IsMinOrMax done → ⊥
wide_refuted k done (error.MissingCapability missing) wrong capable does = wrong.1 capable
wide_refuted k done (error.InvalidImageAtomicFunction fun) wrong capable does = wrong.1 does
wide_refuted k done _ wrong capable does = wrong

narrow_refuted : (k : Capabilities) (done : AtomicFunction) (e : FunctionError) → IsNarrowFault k done e → Has k.0 TEXTURE_ATOMIC.0 → IsDoneAtTexels done → ⊥
narrow_refuted k done (error.MissingCapability missing) wrong capable does = wrong.1 capable
narrow_refuted k done (error.InvalidImageAtomicFunction fun) wrong capable does = wrong.1 does
narrow_refuted k done _ wrong capable does = wrong

format_refuted : (k : Capabilities) (done : AtomicFunction) (format : StorageFormat) (e : FunctionError) → IsFormatFault k done format e → FormatAllows k done format → ⊥
format_refuted k done _ e wrong (wide capable does) = wide_refuted k done e wrong capable does
format_refuted k done _ e wrong (unsigned capable does) = narrow_refuted k done e wrong capable does
format_refuted k done _ e wrong (signed capable does) = narrow_refuted k done e wrong capable does

access_refuted : (access : StorageAccess) (k : Capabilities) (format : StorageFormat) (done : AtomicFunction) (value : Form) (e : ExpressionError)
    → IsAccess access e → IsChangedBy k format access done value → ⊥
access_refuted access k format done value (fault.InvalidImageStorageAccess x) wrong ok = wrong.1 ok.atomic
access_refuted access k format done value _ wrong ok = wrong

operand_refuted : (c : BlockContext) (format : StorageFormat) (access : StorageAccess) (done : AtomicFunction) (value : ℕ) (e : FunctionError)
    → IsOperandFault c format access value e → IsChangedBy c.capabilities format access done (form_at c value) → ⊥
operand_refuted c format access done value (error.InvalidImageAtomic e) wrong ok = access_refuted access c.capabilities format done (form_at c value) e wrong ok
operand_refuted c format access done value (error.InvalidImageAtomicValue x) wrong ok = wrong.1 ok.fits
operand_refuted c format access done value _ wrong ok = wrong

storage_refuted : (c : BlockContext) (format : StorageFormat) (access : StorageAccess) (done : AtomicFunction) (value : ℕ) (e : FunctionError)
    → IsStorageFault c format access done value e → IsChangedBy c.capabilities format access done (form_at c value) → ⊥
storage_refuted c format access done value e (inl wrong) ok = operand_refuted c format access done value e wrong ok
storage_refuted c format access done value e (inr wrong) ok = format_refuted c.capabilities done format e wrong ok.allowed

changed_refuted : (c : BlockContext) (own : ImageClass) (done : AtomicFunction) (value : ℕ) (e : FunctionError)
    → IsChangeFault c own done value e → IsChanged c.capabilities own done (form_at c value) → ⊥
changed_refuted c (class.Sampled kind multi) done value e wrong ok = ok
changed_refuted c (class.Depth multi) done value e wrong ok = ok
changed_refuted c class.External done value e wrong ok = ok
changed_refuted c (class.Storage format access) done value e wrong ok = storage_refuted c format access done value e wrong ok

-- it leads to no image that could be changed
none_changed : (c : BlockContext) (image : ℕ) (e : ExpressionError) → IsChangedImageFault c image e → changed_image c.m c.f image ≡ None
none_changed c image fault.ExpectedGlobalVariable wrong = rw wrong refl
none_changed c image (fault.ExpectedImageType x) wrong = no_image_type c.m.types (option_or (variable_at c.m c.f image) (accessed_at c.m c.f image)) wrong
  where
    no_image_type : (types : List PlainType) (o : Option PlainGlobal)
        → IsSomeAnd o (λ g. (x ≡ g.ty) × (image_type_in types (form_of_type types g.ty) (resource_of (form_of_type types g.ty)) ≡ None))
        → option_and_then (λ g. image_type_in types (form_of_type types g.ty) (resource_of (form_of_type types g.ty))) o ≡ None
    no_image_type types None h = refl
    no_image_type types (Some g) h = h.1
none_changed c image _ wrong = absurd wrong

wrong_refuted : (c : BlockContext) (image coordinate : ℕ) (array_index : Option ℕ) (done : AtomicFunction) (value : ℕ) (e : FunctionError)
    → IsWrongTexel c image coordinate array_index e → ImageAtomicOK c image coordinate array_index done value → ⊥
wrong_refuted c image coordinate array_index done value (error.InvalidImageAtomic e) (inl wrong) ok = missing (changed_image c.m c.f image) _ (none_changed c image e wrong) ok
wrong_refuted c image coordinate array_index done value (error.InvalidImageAtomic e) (inr wrong) ok =
    both (changed_image c.m c.f image) _ _ (λ image_type at fits. texel_refuted c image_type coordinate array_index e at fits.0) wrong ok
wrong_refuted c image coordinate array_index done value _ wrong ok = wrong

pub change_refuted : (c : BlockContext) (image coordinate : ℕ) (array_index : Option ℕ) (done : AtomicFunction) (value : ℕ) (e : FunctionError)
    → IsImageAtomicFault c image coordinate array_index done value e → ImageAtomicOK c image coordinate array_index done value → ⊥
change_refuted c image coordinate array_index done value e (inl wrong) ok = wrong_refuted c image coordinate array_index done value e wrong ok
change_refuted c image coordinate array_index done value e (inr wrong) ok =
    both (changed_image c.m c.f image) _ _ (λ image_type at fits. changed_refuted c image_type.class done value e at fits.1) wrong ok
