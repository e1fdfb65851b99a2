-- A type with an error is invalid.
use Rattle.std.proofs.Common.{◌≡◌, ◌≤◌, ◌⊎◌, inl, inr, ℕ, zero, suc, List, [], ◌∷◌, Some, None, IfSome, Bool, true, false, true≢false, slice_get, option_and_then, refl, sym, ap, subst, ◌∙◌, arith}
use Rattle.std.proofs.lemmas.Option.{same_Some}
use Rattle.ir_flags.specs.declared.settings.Capabilities.{Capabilities}
use Rattle.ir_kinds.specs.declared.bindings.Binding.TheVariants as bound
use Rattle.ir_kinds.specs.declared.scalars.Scalar.{Scalar}
use Rattle.ir_kinds.specs.declared.scalars.ScalarKind.TheVariants.{Float}
use Rattle.ir_kinds.specs.judged.Images.{is_depth}
use Rattle.ir_kinds.specs.declared.images.ImageClass.{ImageClass}
use Rattle.ir_kinds.specs.declared.images.ImageDimension.{ImageDimension}
use Rattle.ir_kinds.specs.declared.spaces.AddressSpace.{AddressSpace}
use Rattle.ir_types.specs.judged.Plain.{PlainInner, PlainMember, PlainType, struct as written_struct, plain}
use Rattle.ir_types.specs.declared.types.ArraySize.{ArraySize}
use Rattle.ir_types.specs.declared.types.ArraySize.TheVariants as count
use Rattle.ir_types.specs.declared.types.TypeInner.TheVariants as inner
use Rattle.typing_layout.specs.judged.Blends.{BlendOK, HasSource, BlendsOK, BlendLocationOK, IsOnlySource, binding_location, source_at}
use Rattle.typing_layout.specs.judged.Flags.{HasFlag, IoShareable, blend_source}
use Rattle.typing_layout.specs.judged.Images.{ImageOK, AccelerationStructureOK, RayQueryTypeOK}
use Rattle.typing_layout.specs.judged.Parts.{member_list, item_before, end_of}
use Rattle.typing_layout.specs.judged.Rules.{ShapeOK, TypeOK, CooperativeOK, PointerOK, CountIsResolved, ArrayOK, BindingArrayOK}
use Rattle.typing_layout.specs.judged.Structs.{MemberOK, StructOK}
use Rattle.typing_layout.specs.judged.Widths.{IsKindAllowed}
use Rattle.typing_layout.specs.judged.View.{members_by, type_tree}
use Rattle.module_type_checks.proofs.Known.{tree_of}
use Rattle.module_type_checks.proofs.Places.{part_at, many_parts}
use Rattle.module_type_checks.proofs.Scalars.{lacked, width_refuted, atomic_refuted}
use Rattle.module_type_checks.specs.Checked.{IsTypeFault, IsInnerOK}
use Rattle.module_type_checks.specs.Known.{types_in, tree_in, IsKnown}
use Rattle.module_type_checks.specs.Placed.{part_of}
use Rattle.module_type_checks.specs.declared.context.TypeContext.{TypeContext}
use Rattle.typing_layout.specs.found.BlendFaults.{IsSource, IsVaryingFault, IsBlendFault}
use Rattle.typing_layout.specs.found.Faults.{IsScalarFault, IsMatrixFault, IsCooperativeFault, IsPointerFault, IsArrayFault, IsBindingArrayFault, IsImageFault, IsStructureFault, IsQueryFault, IsInnerFault, IsPending}
use Rattle.typing_layout.specs.found.MemberFaults.{IsMemberFault, IsStructFault}
use Rattle.typing_layout.specs.declared.type_error.TypeError.{TypeError}
use Rattle.typing_layout.specs.declared.type_error.TypeError.TheVariants as error
use Rattle.typing_layout.specs.declared.type_error.VaryingError.{VaryingError}
use Rattle.typing_layout.specs.declared.type_error.VaryingError.TheVariants as varying
use Rattle.typing_forms.specs.judged.Resolutions.{inner_at}

-- ---- structs

before_part : (c : TypeContext) (ms : List PlainMember) (k : ℕ) (a : PlainMember) → item_before ms k ≡ Some a → item_before (member_list (members_by (tree_in c) ms)) k ≡ Some (part_of (tree_in c) a)
before_part c ms zero a e = cc
before_part c ms (suc k) a e = part_at (tree_in c) ms k a e

member_refuted : (c : TypeContext) (ms : List PlainMember) (span k : ℕ) (m : PlainMember) (e : TypeError) → IsMemberFault (types_in c) ms span k m e
    → MemberOK (member_list (members_by (tree_in c) ms)) span k (part_of (tree_in c) m) → ⊥
member_refuted c ms span k m (error.InvalidData index ty) f ok = f.2 ok.stored
member_refuted c ms span k m (error.InvalidDynamicArray index ty) f ok = f.3 (ok.sized (omega (arith, f.2, many_parts (tree_in c) ms)))
member_refuted c ms span k m (error.MemberOverlap index offset) f ok = elim ok.ordered [
  | inl h ↦
      let le : end_of (part_of (tree_in c) f.3) ≤ m.offset = subst (λ o. IfSome o (λ a. end_of a ≤ m.offset)) (before_part c ms k f.3 f.4) h in
      absurd (omega (arith, le, f.5.past, f.1))
  | inr none ↦ f.2 (f.1 ∙ none)
]
member_refuted c ms span k m (error.MemberOutOfBounds index offset bytes end) f ok = absurd (omega (arith, ok.within, f.4.past))
member_refuted c ms span k m _ f ok = f

struct_refuted : (c : TypeContext) (ms : List PlainMember) (span : ℕ) (e : TypeError) → IsStructFault (types_in c) ms span e → StructOK (member_list (members_by (tree_in c) ms)) span → ⊥
struct_refuted c ms span error.EmptyStruct f ok = ok.some (ap (λ xs. member_list (members_by (tree_in c) xs)) f)
struct_refuted c ms span e f ok = member_refuted c ms span f.0 f.1 e f.3 (ok.each f.0 (part_of (tree_in c) f.1) (part_at (tree_in c) ms f.0 f.1 f.2))

-- ---- blend sources

located_source : (m : PlainMember) (source : ℕ) → blend_source m.binding ≡ Some source → BlendLocationOK m → (source ≡ 0) ⊎ (source ≡ 1)
located_source m source is ok = let at = location m.binding source is in elim ((ok at.0 at.1).1) [ inl e ↦ inl (same_Some source 0 (sym is ∙ e)) | inr e ↦ inr (same_Some source 1 (sym is ∙ e)) ]
  where
    location : (b : _) (source : ℕ) → blend_source b ≡ Some source → (l : ℕ) × (binding_location b ≡ Some l)
    location None source e = cc
    location (Some (bound.BuiltIn built_in)) source e = cc
    location (Some (bound.Location l i s b p)) source e = (l, refl)

member_there : (ms : List PlainMember) (k source : ℕ) → source_at ms k ≡ Some source → (m : PlainMember) × (slice_get ms k ≡ Some m) × (blend_source m.binding ≡ Some source)
member_there [] k source e = cc
member_there (m ∷ ms) zero source e = (m, refl, e)
member_there (m ∷ ms) (suc k) source e = member_there ms k source e

source_there : (ms : List PlainMember) (k source : ℕ) (m : PlainMember) → slice_get ms k ≡ Some m → blend_source m.binding ≡ Some source → source_at ms k ≡ Some source
source_there ms k source m at is = ap (option_and_then (λ (x : PlainMember). blend_source x.binding)) at ∙ is

-- a member with a blend source is the only one with that source
only_there : (ms : List PlainMember) (source place ty : ℕ) (m : PlainMember) → IsOnlySource ms source place m → IsSource ms source ty → ty ≡ m.ty
only_there ms source place ty m only at =
    let same : at.place ≡ place = only.only at.place (source_there ms at.place source at.m at.at at.is) in
    let one : at.m ≡ m = (let a = at.at in let b = only.at in let c = same in cc) in
    at.of ∙ ap (λ (x : PlainMember). x.ty) one

varying_refuted : (k : Capabilities) (types : List PlainType) (ms : List PlainMember) (e : VaryingError) → IsVaryingFault types ms e → BlendOK k types ms → ⊥
varying_refuted k types ms (varying.NotIOShareableType ty) f ok =
    let at = f.0.1 in
    elim (located_source at.m f.0.0 at.is (ok.located at.place at.m at.at)) [
      | inl e ↦ f.1 (subst (λ h. HasFlag IoShareable (type_tree types h)) (sym (only_there ms 0 ok.first_place ty ok.first ok.is_first (subst (λ s. IsSource ms s ty) e at))) ok.first_shared)
      | inr e ↦ f.1 (subst (λ h. HasFlag IoShareable (type_tree types h)) (sym (only_there ms 1 ok.second_place ty ok.second ok.is_second (subst (λ s. IsSource ms s ty) e at))) ok.second_shared)
    ]
varying_refuted k types ms (varying.BindingCollisionBlendSrc source) f ok =
    let at = member_there ms f.first source f.at_first in
    elim (located_source at.0 source at.2 (ok.located f.first at.0 at.1)) [
      | inl e ↦ f.apart (ok.is_first.only f.first (f.at_first ∙ ap Some e) ∙ sym (ok.is_first.only f.second (f.at_second ∙ ap Some e)))
      | inr e ↦ f.apart (ok.is_second.only f.first (f.at_first ∙ ap Some e) ∙ sym (ok.is_second.only f.second (f.at_second ∙ ap Some e)))
    ]
varying_refuted k types ms (varying.InvalidBlendSrcIndex location source) f ok =
    let h = ok.located f.1.place f.0 f.1.at location f.1.is in
    elim f.3 [
      | inl wrong ↦ wrong h.0
      | inr wrong ↦ elim h.1 [ inl e ↦ wrong.0 (same_Some source 0 (sym f.2 ∙ e)) | inr e ↦ wrong.1 (same_Some source 1 (sym f.2 ∙ e)) ]
    ]
varying_refuted k types ms (varying.IncompleteBlendSrcUsage present) f ok = elim f.1 [
  | inl h ↦ h.1 ok.second_place (source_there ms ok.second_place 1 ok.second ok.is_second.at ok.is_second.is)
  | inr h ↦ h.1 ok.first_place (source_there ms ok.first_place 0 ok.first ok.is_first.at ok.is_first.is)
]
varying_refuted k types ms (varying.InvalidBlendSrcWithOtherBindings location) f ok =
    let h = ok.located f.1.place f.0 f.1.at location f.1.is in
    elim h.1 [ inl e ↦ absurd (let a = e in let b = f.2 in cc) | inr e ↦ absurd (let a = e in let b = f.2 in cc) ]
varying_refuted k types ms (varying.BlendSrcOutputTypeMismatch a b) f ok =
    f.2 (ap (inner_at types) (only_there ms 0 ok.first_place a ok.first ok.is_first f.0) ∙ ok.equal ∙ ap (inner_at types) (sym (only_there ms 1 ok.second_place b ok.second ok.is_second f.1)))

blend_refuted : (k : Capabilities) (types : List PlainType) (ms : List PlainMember) (e : TypeError) → IsBlendFault k types ms e → (HasSource ms → BlendOK k types ms) → ⊥
blend_refuted k types ms (error.MissingCapability c) f ok = lacked k c _ f.2 f.1 (ok f.0).capability
blend_refuted k types ms (error.InvalidBlendSrc e) f ok = varying_refuted k types ms e f.1 (ok f.0)
blend_refuted k types ms _ f ok = f

-- ---- types of any kind

scalar_refuted : (k : Capabilities) (s : Scalar) (e : TypeError) → IsScalarFault k s e → IsKindAllowed k s.kind s.width → ⊥
scalar_refuted k s (error.WidthError e) f ok = width_refuted k s e f ok
scalar_refuted k s _ f ok = f

matrix_refuted : (k : Capabilities) (s : Scalar) (e : TypeError) → IsMatrixFault k s e → (s.kind ≡ Float) × IsKindAllowed k s.kind s.width → ⊥
matrix_refuted k s (error.WidthError e) f ok = width_refuted k s e f ok.1
matrix_refuted k s error.MatrixElementNotFloat f ok = f ok.0
matrix_refuted k s _ f ok = f

cooperative_refuted : (k : Capabilities) (s : Scalar) (e : TypeError) → IsCooperativeFault k s e → CooperativeOK k s → ⊥
cooperative_refuted k s (error.MissingCapability c) f ok = lacked k c _ f.1 f.0 ok.0
cooperative_refuted k s error.Other f ok = elim ok.1 [ inl e ↦ f.0 e | inr e ↦ f.1 e ]
cooperative_refuted k s _ f ok = f

pointer_refuted : (types : List PlainType) (base : ℕ) (space : AddressSpace) (e : TypeError) → IsPointerFault types base space e → PointerOK (type_tree types base) space → ⊥
pointer_refuted types base space (error.InvalidPointerBase ty) f ok = f.1 ok.0
pointer_refuted types base space (error.InvalidPointerToUnsized ty s) f ok = elim ok.1 [ inl sized ↦ f.2 sized | inr storage ↦ f.3 storage ]
pointer_refuted types base space _ f ok = f

pending_refuted : (resolved : Bool) (n : ArraySize) → resolved ≡ true → IsPending n → CountIsResolved resolved n → ⊥
pending_refuted resolved (count.Constant n) is pending ok = pending
pending_refuted resolved (count.Pending override) is pending ok = true≢false (sym is ∙ ok)
pending_refuted resolved count.Dynamic is pending ok = pending

array_refuted : (resolved : Bool) (types : List PlainType) (handle base : ℕ) (n : ArraySize) (e : TypeError) → IsArrayFault resolved types handle base n e → ArrayOK resolved (type_tree types base) n → ⊥
array_refuted resolved types handle base n (error.InvalidArrayBaseType ty) f ok = f.1 (ok.0, ok.1)
array_refuted resolved types handle base n (error.UnresolvedOverride ty) f ok = pending_refuted resolved n f.1 f.2 ok.2
array_refuted resolved types handle base n _ f ok = f

binding_refuted : (types : List PlainType) (base : ℕ) (n : ArraySize) (e : TypeError) → IsBindingArrayFault types base n e → BindingArrayOK (type_tree types base) n → ⊥
binding_refuted types base n error.Other f ok = f ok
binding_refuted types base n _ f ok = f

no_truth : (b : Bool) → b ≡ true → b ≡ false → ⊥
no_truth b so wrong = true≢false (sym so ∙ wrong)

image_refuted : (k : Capabilities) (dim : ImageDimension) (arrayed : Bool) (class : ImageClass) (e : TypeError) → IsImageFault k dim arrayed class e → ImageOK k dim arrayed class → ⊥
image_refuted k dim arrayed class (error.MissingCapability c) f ok = elim f.0 [ inl h ↦ lacked k c _ f.1 h.2 (ok.cube h.0 h.1) | inr h ↦ lacked k c _ f.1 h.1 (ok.external h.0).0 ]
image_refuted k dim arrayed class (error.UnsupportedImageType d a x) f ok = elim f.3 [
  | inl h ↦ elim h.1 [ inl so ↦ no_truth arrayed so (ok.volume h.0).0 | inr deep ↦ no_truth (is_depth class) deep (ok.volume h.0).1 ]
  | inr h ↦ elim h.1 [ inl other ↦ other (ok.external h.0).1 | inr so ↦ no_truth arrayed so (ok.external h.0).2 ]
]
image_refuted k dim arrayed class _ f ok = f

structure_refuted : (k : Capabilities) (v : Bool) (e : TypeError) → IsStructureFault k v e → AccelerationStructureOK k v → ⊥
structure_refuted k v (error.MissingCapability c) f ok = elim f [
  | inl h ↦ elim ok.0 [ inl a ↦ h.1 a | inr b ↦ h.2 b ]
  | inr h ↦ lacked k c _ h.2 h.1 (ok.1 h.0)
]
structure_refuted k v _ f ok = f

query_refuted : (k : Capabilities) (v : Bool) (e : TypeError) → IsQueryFault k v e → RayQueryTypeOK k v → ⊥
query_refuted k v (error.MissingCapability c) f ok = elim f [ inl h ↦ lacked k c _ h.1 h.0 ok.0 | inr h ↦ lacked k c _ h.2 h.1 (ok.1 h.0) ]
query_refuted k v _ f ok = f

inner_refuted : (c : TypeContext) (handle : ℕ) (i : PlainInner) (e : TypeError) → IsInnerFault c.capabilities c.overrides_resolved (types_in c) handle i e → IsInnerOK c i → ⊥
inner_refuted c handle (written_struct members span) e f ok = elim f [ inl h ↦ struct_refuted c members span e h ok.0 | inr h ↦ blend_refuted c.capabilities (types_in c) members e h ok.1 ]
inner_refuted c handle (plain (inner.Scalar s)) e f ok = scalar_refuted c.capabilities s e f ok.0
inner_refuted c handle (plain (inner.Vector n s)) e f ok = scalar_refuted c.capabilities s e f ok.0
inner_refuted c handle (plain (inner.Matrix columns rows s)) e f ok = matrix_refuted c.capabilities s e f ok.0
inner_refuted c handle (plain (inner.CooperativeMatrix columns rows s role)) e f ok = cooperative_refuted c.capabilities s e f ok.0
inner_refuted c handle (plain (inner.Atomic s)) e f ok = atomic_refuted c.capabilities s e f ok.0
inner_refuted c handle (plain (inner.Pointer base space)) e f ok = pointer_refuted (types_in c) base space e f ok.0
inner_refuted c handle (plain (inner.ValuePointer n s space)) e f ok = scalar_refuted c.capabilities s e f ok.0
inner_refuted c handle (plain (inner.Array base n stride)) e f ok = array_refuted c.overrides_resolved (types_in c) handle base n e f ok.0
inner_refuted c handle (plain (inner.Struct members span)) e f ok = f
inner_refuted c handle (plain (inner.Image dim arrayed class)) e f ok = image_refuted c.capabilities dim arrayed class e f ok.0
inner_refuted c handle (plain (inner.Sampler comparison)) e f ok = f
inner_refuted c handle (plain (inner.AccelerationStructure v)) e f ok = structure_refuted c.capabilities v e f ok.0
inner_refuted c handle (plain (inner.RayQuery v)) e f ok = query_refuted c.capabilities v e f ok.0
inner_refuted c handle (plain (inner.BindingArray base n)) e f ok = binding_refuted (types_in c) base n e f ok.0

pub refuted : (c : TypeContext) (handle : ℕ) (e : TypeError) → IsKnown c → IsTypeFault c handle e → ¬ TypeOK c.capabilities c.overrides_resolved (types_in c) handle
refuted c handle e known f ok =
    inner_refuted c handle f.i e f.fault (
      subst (ShapeOK c.capabilities c.overrides_resolved) (tree_of c handle f.i known (sym f.at)) ok.shape,
      subst (BlendsOK c.capabilities (types_in c)) f.at ok.blends,
    )
