-- The encoding relations of types and their parts.
use Rattle.std.specs.Prelude.{◌≤◌, codes}
use Rattle.std.specs.Int.RustNames.{bit_or}
use Rattle.serde_json.specs.Data.{Data, Items}
use Rattle.ir_kinds.specs.declared.bindings.BuiltIn.{BuiltIn}
use Rattle.ir_kinds.specs.declared.bindings.BuiltIn.TheVariants as built_in_kinds
use Rattle.ir_kinds.specs.declared.bindings.Binding.{Binding}
use Rattle.ir_kinds.specs.declared.bindings.Binding.TheVariants as bindings
use Rattle.ir_kinds.specs.declared.bindings.ResourceBinding.{ResourceBinding}
use Rattle.ir_kinds.specs.declared.images.ImageClass.{ImageClass}
use Rattle.ir_kinds.specs.declared.images.ImageClass.TheVariants as image_classes
use Rattle.ir_kinds.specs.declared.spaces.AddressSpace.{AddressSpace}
use Rattle.ir_kinds.specs.declared.spaces.AddressSpace.TheVariants as space
use Rattle.ir_flags.specs.declared.memory.StorageAccess.{StorageAccess}
use Rattle.ir_types.specs.declared.types.ArraySize.{ArraySize}
use Rattle.ir_types.specs.declared.types.ArraySize.TheVariants as array_sizes
use Rattle.ir_types.specs.declared.types.TypeInner.TheVariants as inner
use Rattle.ir_types.specs.judged.Plain.{PlainMember, PlainInner, struct, plain, PlainType}
use Rattle.document_words.specs.Tables.{scalars, scalar_kinds, cooperative_roles, image_dimensions, storage_formats, interpolations, samplings, built_ins, spaces, storage_access}
use Rattle.document_forms.specs.judged.Form.{AHandle, AU32, AVectorSize, ACooperativeSize, ABool, AText, AWord, ASet, Maybe, AnArray, AList, Ends, ◌▸◌, ◌with◌}

-- ---- bindings

-- a built-in by its word; two of them with a bool after it
unfoldable pub ABuiltIn : BuiltIn → Items → Type 0
ABuiltIn (built_in_kinds.Position invariant) = AText (codes "Position") ▸ ABool invariant ▸ Ends
ABuiltIn (built_in_kinds.Barycentric perspective) = AText (codes "Barycentric") ▸ ABool perspective ▸ Ends
ABuiltIn other = AWord built_ins other ▸ Ends

unfoldable pub ABinding : Binding → Data → Type 0
ABinding (bindings.BuiltIn built_in) = "BuiltIn" with ABuiltIn built_in
ABinding (bindings.Location location interpolation sampling blend per_primitive) = "Location" with AU32 location ▸
    Maybe (AWord interpolations) interpolation ▸ Maybe (AWord samplings) sampling ▸ Maybe AU32 blend ▸ ABool per_primitive ▸ Ends

-- the group and the binding number
abbrev pub AResource : ResourceBinding → Data → Type 0
AResource r = AnArray (AU32 r.group ▸ AU32 r.binding ▸ Ends)

-- ---- types

-- the access mode of a storage buffer or a storage texture
abbrev pub AnAccess : StorageAccess → Data → Type 0
AnAccess = ASet storage_access (record { 0 = 0 }) (λ a b. record { 0 = bit_or a.0 b.0 })

-- an address space by its word; a storage buffer with its access mode
unfoldable pub ASpace : AddressSpace → Data → Type 0
ASpace (space.Storage access) = "Storage" with AnAccess access ▸ Ends
ASpace other = AWord spaces other

-- a constant size is not 0
unfoldable pub AnArraySize : ArraySize → Data → Type 0
AnArraySize (array_sizes.Constant count) = "Constant" with (λ d. AU32 count d × (1 ≤ count)) ▸ Ends
AnArraySize (array_sizes.Pending length) = "Pending" with AHandle length ▸ Ends
AnArraySize array_sizes.Dynamic = "Dynamic" with Ends

unfoldable pub AnImageClass : ImageClass → Data → Type 0
AnImageClass (image_classes.Sampled kind multi) = "Sampled" with AWord scalar_kinds kind ▸ ABool multi ▸ Ends
AnImageClass (image_classes.Depth multi) = "Depth" with ABool multi ▸ Ends
AnImageClass image_classes.External = "External" with Ends
AnImageClass (image_classes.Storage format access) = "Storage" with AWord storage_formats format ▸ AnAccess access ▸ Ends

abbrev pub AMember : PlainMember → Data → Type 0
AMember m = AnArray (Maybe AText m.name ▸ AHandle m.ty ▸ Maybe ABinding m.binding ▸ AU32 m.offset ▸ Ends)

unfoldable pub AnInner : PlainInner → Data → Type 0
AnInner (plain (inner.Scalar scalar)) = "Scalar" with AWord scalars scalar ▸ Ends
AnInner (plain (inner.Vector size scalar)) = "Vector" with AVectorSize size ▸ AWord scalars scalar ▸ Ends
AnInner (plain (inner.Matrix columns rows scalar)) = "Matrix" with AVectorSize columns ▸ AVectorSize rows ▸ AWord scalars scalar ▸ Ends
AnInner (plain (inner.CooperativeMatrix columns rows scalar role)) = "CooperativeMatrix" with ACooperativeSize columns ▸ ACooperativeSize rows ▸
    AWord scalars scalar ▸ AWord cooperative_roles role ▸ Ends
AnInner (plain (inner.Atomic scalar)) = "Atomic" with AWord scalars scalar ▸ Ends
AnInner (plain (inner.Pointer base space)) = "Pointer" with AHandle base ▸ ASpace space ▸ Ends
AnInner (plain (inner.ValuePointer size scalar space)) = "ValuePointer" with Maybe AVectorSize size ▸ AWord scalars scalar ▸ ASpace space ▸ Ends
AnInner (plain (inner.Array base size stride)) = "Array" with AHandle base ▸ AnArraySize size ▸ AU32 stride ▸ Ends
AnInner (plain (inner.Image dim arrayed class)) = "Image" with AWord image_dimensions dim ▸ ABool arrayed ▸ AnImageClass class ▸ Ends
AnInner (plain (inner.Sampler comparison)) = "Sampler" with ABool comparison ▸ Ends
AnInner (plain (inner.AccelerationStructure vertex_return)) = "AccelerationStructure" with ABool vertex_return ▸ Ends
AnInner (plain (inner.RayQuery vertex_return)) = "RayQuery" with ABool vertex_return ▸ Ends
AnInner (plain (inner.BindingArray base size)) = "BindingArray" with AHandle base ▸ AnArraySize size ▸ Ends
AnInner (struct members span) = "Struct" with AList AMember members ▸ AU32 span ▸ Ends
AnInner (plain (inner.Struct members span)) = λ d. ⊥

abbrev pub AType : PlainType → Data → Type 0
AType t = AnArray (Maybe AText t.name ▸ AnInner t.inner ▸ Ends)
