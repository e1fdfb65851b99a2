-- Type errors, one kind of type after another.
use Rattle.std.specs.Prelude.{◌≡◌, ◌≢◌, ◌⊎◌, ℕ, List, Bool, true}
use Rattle.ir_flags.specs.Sets.{Has}
use Rattle.ir_flags.specs.declared.settings.Capabilities.{Capabilities}
use Rattle.ir_flags.specs.declared.settings.TheConstants.Capabilities.{FLOAT64, SHADER_FLOAT16, SHADER_INT16, SHADER_INT64, SHADER_FLOAT32_ATOMIC, SHADER_INT64_ATOMIC_MIN_MAX, SHADER_INT64_ATOMIC_ALL_OPS, COOPERATIVE_MATRIX, CUBE_ARRAY_TEXTURES, TEXTURE_EXTERNAL, RAY_QUERY, RAY_TRACING_PIPELINE, RAY_HIT_VERTEX_POSITION}
use Rattle.ir_kinds.specs.judged.Images.{is_depth}
use Rattle.ir_kinds.specs.judged.Scalars.{floating}
use Rattle.ir_kinds.specs.declared.images.ImageClass.{ImageClass}
use Rattle.ir_kinds.specs.declared.images.ImageClass.TheVariants.{External}
use Rattle.ir_kinds.specs.declared.images.ImageDimension.{ImageDimension}
use Rattle.ir_kinds.specs.declared.images.ImageDimension.TheVariants.{D2, D3, Cube}
use Rattle.ir_kinds.specs.declared.scalars.Scalar.{Scalar}
use Rattle.ir_kinds.specs.declared.scalars.ScalarKind.{ScalarKind}
use Rattle.ir_kinds.specs.declared.scalars.ScalarKind.TheVariants.{Sint, Uint, Float, AbstractInt, AbstractFloat}
use Rattle.ir_kinds.specs.declared.scalars.ScalarKind.TheVariants as kind
use Rattle.ir_kinds.specs.declared.spaces.AddressSpace.{AddressSpace}
use Rattle.typing_forms.specs.IrTypes.{PlainInner, struct, plain, PlainType, ArraySize}
use Rattle.typing_forms.specs.IrTypes.count as count
use Rattle.typing_forms.specs.IrTypes.inner as inner
use Rattle.typing_layout.specs.judged.Flags.{HasFlag, Data, Sized}
use Rattle.typing_layout.specs.judged.Rules.{IsStorageSpace, BindingArrayOK}
use Rattle.typing_layout.specs.judged.View.{type_tree}
use Rattle.typing_layout.specs.found.BlendFaults.{IsBlendFault}
use Rattle.typing_layout.specs.found.MemberFaults.{IsStructFault}
use Rattle.typing_layout.specs.declared.type_error.TypeError.{TypeError}
use Rattle.typing_layout.specs.declared.type_error.TypeError.TheVariants as error
use Rattle.typing_layout.specs.declared.type_error.WidthError.{WidthError}
use Rattle.typing_layout.specs.declared.type_error.WidthError.TheVariants as width

-- ---- scalars

abbrev pub Lacks : Capabilities → Capabilities → Type 0
Lacks capabilities c = ¬ Has capabilities.0 c.0

-- there is no scalar of this width; widths two and eight require capabilities
abbrev pub IsNoWidth : (bytes : ℕ) → Type 0
IsNoWidth bytes = (bytes ≢ 2) × (bytes ≢ 4) × (bytes ≢ 8)

abbrev pub IsNoScalar : ScalarKind → (bytes : ℕ) → Type 0
IsNoScalar Sint bytes = IsNoWidth bytes
IsNoScalar Uint bytes = IsNoWidth bytes
IsNoScalar Float bytes = IsNoWidth bytes
IsNoScalar kind.Bool bytes = bytes ≢ 1
IsNoScalar AbstractInt bytes = ⊥
IsNoScalar AbstractFloat bytes = ⊥

-- a scalar of width two or eight requires its capability
abbrev pub RequiresFor : (two eight : Capabilities) → (bytes : ℕ) → Capabilities → Type 0
RequiresFor two eight bytes c = ((bytes ≡ 2) × (c ≡ two)) ⊎ ((bytes ≡ 8) × (c ≡ eight))

abbrev pub KindRequires : ScalarKind → (bytes : ℕ) → Capabilities → Type 0
KindRequires Sint bytes c = RequiresFor SHADER_INT16 SHADER_INT64 bytes c
KindRequires Uint bytes c = RequiresFor SHADER_INT16 SHADER_INT64 bytes c
KindRequires Float bytes c = RequiresFor SHADER_FLOAT16 FLOAT64 bytes c
KindRequires kind.Bool bytes c = ⊥
KindRequires AbstractInt bytes c = ⊥
KindRequires AbstractFloat bytes c = ⊥

abbrev pub IsWidthFault : Capabilities → Scalar → WidthError → Type 0
IsWidthFault capabilities s (width.Invalid k bytes) = (k ≡ s.kind) × (bytes ≡ s.width) × IsNoScalar s.kind s.width
IsWidthFault capabilities s (width.MissingCapability c) = KindRequires s.kind s.width c × Lacks capabilities c
IsWidthFault capabilities s width.Abstract = (s.kind ≡ AbstractInt) ⊎ (s.kind ≡ AbstractFloat)

abbrev pub IsScalarFault : Capabilities → Scalar → TypeError → Type 0
IsScalarFault capabilities s (error.WidthError e) = IsWidthFault capabilities s e
IsScalarFault capabilities s _ = ⊥

abbrev pub IsMatrixFault : Capabilities → Scalar → TypeError → Type 0
IsMatrixFault capabilities s (error.WidthError e) = IsWidthFault capabilities s e
IsMatrixFault capabilities s error.MatrixElementNotFloat = s.kind ≢ Float
IsMatrixFault capabilities s _ = ⊥

abbrev pub IsCooperativeFault : Capabilities → Scalar → TypeError → Type 0
IsCooperativeFault capabilities s (error.MissingCapability c) = (c ≡ COOPERATIVE_MATRIX) × Lacks capabilities c
IsCooperativeFault capabilities s error.Other = (s ≢ floating 4) × (s ≢ floating 2)
IsCooperativeFault capabilities s _ = ⊥

-- ---- atomics

abbrev pub IsNoAtomic : ScalarKind → (bytes : ℕ) → Type 0
IsNoAtomic Sint bytes = (bytes ≢ 4) × (bytes ≢ 8)
IsNoAtomic Uint bytes = (bytes ≢ 4) × (bytes ≢ 8)
IsNoAtomic Float bytes = bytes ≢ 4
IsNoAtomic kind.Bool bytes = Unit {0}
IsNoAtomic AbstractInt bytes = Unit {0}
IsNoAtomic AbstractFloat bytes = Unit {0}

abbrev pub LacksWideAtomics : Capabilities → (bytes : ℕ) → Capabilities → Type 0
LacksWideAtomics capabilities bytes c =
    (bytes ≡ 8) × (c ≡ SHADER_INT64_ATOMIC_ALL_OPS) × Lacks capabilities SHADER_INT64_ATOMIC_MIN_MAX × Lacks capabilities SHADER_INT64_ATOMIC_ALL_OPS

abbrev pub LacksAtomic : Capabilities → ScalarKind → (bytes : ℕ) → Capabilities → Type 0
LacksAtomic capabilities Sint bytes c = LacksWideAtomics capabilities bytes c
LacksAtomic capabilities Uint bytes c = LacksWideAtomics capabilities bytes c
LacksAtomic capabilities Float bytes c = (bytes ≡ 4) × (c ≡ SHADER_FLOAT32_ATOMIC) × Lacks capabilities SHADER_FLOAT32_ATOMIC
LacksAtomic capabilities kind.Bool bytes c = ⊥
LacksAtomic capabilities AbstractInt bytes c = ⊥
LacksAtomic capabilities AbstractFloat bytes c = ⊥

abbrev pub IsAtomicFault : Capabilities → Scalar → TypeError → Type 0
IsAtomicFault capabilities s (error.InvalidAtomicWidth k bytes) = (k ≡ s.kind) × (bytes ≡ s.width) × IsNoAtomic s.kind s.width
IsAtomicFault capabilities s (error.MissingCapability c) = LacksAtomic capabilities s.kind s.width c
IsAtomicFault capabilities s _ = ⊥

-- ---- types that refer to another

abbrev pub IsPointerFault : List PlainType → (base : ℕ) → AddressSpace → TypeError → Type 0
IsPointerFault types base space (error.InvalidPointerBase ty) = (ty ≡ base) × ¬ HasFlag Data (type_tree types base)
IsPointerFault types base space (error.InvalidPointerToUnsized ty s) = (ty ≡ base) × (s ≡ space) × ¬ HasFlag Sized (type_tree types base) × ¬ IsStorageSpace space
IsPointerFault types base space _ = ⊥

abbrev pub IsPending : ArraySize → Type 0
IsPending (count.Constant n) = ⊥
IsPending (count.Pending override) = Unit {0}
IsPending count.Dynamic = ⊥

abbrev pub IsArrayFault : (resolved : Bool) → List PlainType → (handle base : ℕ) → ArraySize → TypeError → Type 0
IsArrayFault resolved types handle base n (error.InvalidArrayBaseType ty) = (ty ≡ base) × ¬ (HasFlag Data (type_tree types base) × HasFlag Sized (type_tree types base))
IsArrayFault resolved types handle base n (error.UnresolvedOverride ty) = (ty ≡ handle) × (resolved ≡ true) × IsPending n
IsArrayFault resolved types handle base n _ = ⊥

abbrev pub IsBindingArrayFault : List PlainType → (base : ℕ) → ArraySize → TypeError → Type 0
IsBindingArrayFault types base n error.Other = ¬ BindingArrayOK (type_tree types base) n
IsBindingArrayFault types base n _ = ⊥

-- ---- images, and types of ray tracing

abbrev pub LacksForImage : Capabilities → ImageDimension → (arrayed : Bool) → ImageClass → Capabilities → Type 0
LacksForImage capabilities dim arrayed class c =
    (((dim ≡ Cube) × (arrayed ≡ true) × (c ≡ CUBE_ARRAY_TEXTURES)) ⊎ ((class ≡ External) × (c ≡ TEXTURE_EXTERNAL))) × Lacks capabilities c

abbrev pub IsNoImage : ImageDimension → (arrayed : Bool) → ImageClass → Type 0
IsNoImage dim arrayed class =
    ((dim ≡ D3) × ((arrayed ≡ true) ⊎ (is_depth class ≡ true))) ⊎ ((class ≡ External) × ((dim ≢ D2) ⊎ (arrayed ≡ true)))

abbrev pub IsImageFault : Capabilities → ImageDimension → (arrayed : Bool) → ImageClass → TypeError → Type 0
IsImageFault capabilities dim arrayed class (error.MissingCapability c) = LacksForImage capabilities dim arrayed class c
IsImageFault capabilities dim arrayed class (error.UnsupportedImageType d a k) = (d ≡ dim) × (a ≡ arrayed) × (k ≡ class) × IsNoImage dim arrayed class
IsImageFault capabilities dim arrayed class _ = ⊥

abbrev pub LacksVertices : Capabilities → (vertex_return : Bool) → Capabilities → Type 0
LacksVertices capabilities vertex_return c = (vertex_return ≡ true) × (c ≡ RAY_HIT_VERTEX_POSITION) × Lacks capabilities c

abbrev pub IsStructureFault : Capabilities → (vertex_return : Bool) → TypeError → Type 0
IsStructureFault capabilities vertex_return (error.MissingCapability c) =
    ((c ≡ RAY_QUERY) × Lacks capabilities RAY_QUERY × Lacks capabilities RAY_TRACING_PIPELINE) ⊎ LacksVertices capabilities vertex_return c
IsStructureFault capabilities vertex_return _ = ⊥

abbrev pub IsQueryFault : Capabilities → (vertex_return : Bool) → TypeError → Type 0
IsQueryFault capabilities vertex_return (error.MissingCapability c) = ((c ≡ RAY_QUERY) × Lacks capabilities c) ⊎ LacksVertices capabilities vertex_return c
IsQueryFault capabilities vertex_return _ = ⊥

-- ---- any type

abbrev pub IsInnerFault : Capabilities → (resolved : Bool) → List PlainType → (handle : ℕ) → PlainInner → TypeError → Type 0
IsInnerFault capabilities resolved types handle (struct members span) e = IsStructFault types members span e ⊎ IsBlendFault capabilities types members e
IsInnerFault capabilities resolved types handle (plain (inner.Scalar s)) e = IsScalarFault capabilities s e
IsInnerFault capabilities resolved types handle (plain (inner.Vector n s)) e = IsScalarFault capabilities s e
IsInnerFault capabilities resolved types handle (plain (inner.Matrix columns rows s)) e = IsMatrixFault capabilities s e
IsInnerFault capabilities resolved types handle (plain (inner.CooperativeMatrix columns rows s role)) e = IsCooperativeFault capabilities s e
IsInnerFault capabilities resolved types handle (plain (inner.Atomic s)) e = IsAtomicFault capabilities s e
IsInnerFault capabilities resolved types handle (plain (inner.Pointer base space)) e = IsPointerFault types base space e
IsInnerFault capabilities resolved types handle (plain (inner.ValuePointer n s space)) e = IsScalarFault capabilities s e
IsInnerFault capabilities resolved types handle (plain (inner.Array base n stride)) e = IsArrayFault resolved types handle base n e
IsInnerFault capabilities resolved types handle (plain (inner.Struct members span)) e = ⊥
IsInnerFault capabilities resolved types handle (plain (inner.Image dim arrayed class)) e = IsImageFault capabilities dim arrayed class e
IsInnerFault capabilities resolved types handle (plain (inner.Sampler comparison)) e = ⊥
IsInnerFault capabilities resolved types handle (plain (inner.AccelerationStructure vertex_return)) e = IsStructureFault capabilities vertex_return e
IsInnerFault capabilities resolved types handle (plain (inner.RayQuery vertex_return)) e = IsQueryFault capabilities vertex_return e
IsInnerFault capabilities resolved types handle (plain (inner.BindingArray base n)) e = IsBindingArrayFault types base n e
