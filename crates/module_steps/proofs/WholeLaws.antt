-- The `TypeInfo` of a type, from those of its parts.
use Rattle.std.proofs.Common.{◌≡◌, ℕ, Some, inr, Result, Ok, Err, MatchResult, map, refl, sym, ap, subst, ◌∙◌}
use Rattle.ir_types.specs.judged.Plain.{PlainInner, struct as written_struct, plain, inner_view, member_view}
use Rattle.ir_types.specs.declared.types.ArraySize.{ArraySize}
use Rattle.ir_types.specs.declared.types.TypeInner.{TypeInner}
use Rattle.ir_types.specs.declared.types.TypeInner.TheVariants as inner
use Rattle.module_steps.proofs.Inside.{somewhere_here}
use Rattle.module_type_checks.specs.Kinds.{whole_flags}
use Rattle.module_steps.specs.Layouts.{IsStructOf, IsArrayAt, IsScalarFit, IsScalarUnfit}
use Rattle.module_type_checks.specs.Sets.{AreOf}
use Rattle.module_steps.specs.Whole.{IsWhole}
use Rattle.typing_layout.specs.judged.Buffers.{FitsStorageBuffer, FitsUniformBuffer, uniform_alignment}
use Rattle.typing_layout.specs.judged.Flags.{HasFlag, HostShareable}
use Rattle.typing_layout.specs.judged.Immediates.{FitsImmediates}
use Rattle.typing_layout.specs.judged.Layout.{alignment, tree_scalar}
use Rattle.typing_layout.specs.judged.Tree.{Tree, scalar, vector, matrix, cooperative_matrix, atomic, pointer, value_pointer, array, struct, image, sampler, acceleration_structure, ray_query, binding_array}
use Rattle.typing_layout.specs.judged.View.{tree_by, members_by}
use Rattle.module_type_checks.proofs.Known.{tree_of}
use Rattle.module_type_checks.specs.Known.{types_in, tree_in, IsKnown, AreFacts}
use Rattle.module_type_checks.specs.declared.context.TypeContext.{TypeContext}
use Rattle.module_type_checks.specs.declared.facts.Facts.{Facts}
use Rattle.typing_layout.specs.found.BufferFaults.{IsUnfit}
use Rattle.typing_layout.specs.found.Infos.{AreFlags}
use Rattle.typing_layout.specs.declared.type_error.ImmediateError.{ImmediateError}
use Rattle.typing_layout.specs.declared.type_error.ImmediateError.TheVariants as immediate
use Rattle.typing_layout.specs.declared.type_flags.TypeFlags.{TypeFlags}
use Rattle.typing_forms.specs.judged.Resolutions.{inner_at}

pub whole_storage : (t : Tree) → IsWhole t → HasFlag HostShareable t → FitsStorageBuffer t
whole_storage (scalar s) whole host = (host, tt)
whole_storage (vector n s) whole host = (host, tt)
whole_storage (matrix columns rows s) whole host = (host, tt)
whole_storage (cooperative_matrix columns rows s role) whole host = (host, tt)
whole_storage (atomic s) whole host = (host, tt)
whole_storage (pointer base space) whole host = (host, tt)
whole_storage (value_pointer n s space) whole host = (host, tt)
whole_storage (array base n stride) whole host = absurd whole
whole_storage (struct ms span) whole host = absurd whole
whole_storage (image dim arrayed class) whole host = (host, tt)
whole_storage (sampler comparison) whole host = (host, tt)
whole_storage (acceleration_structure vertex_return) whole host = (host, tt)
whole_storage (ray_query vertex_return) whole host = (host, tt)
whole_storage (binding_array base n) whole host = (host, tt)

pub whole_uniform : (t : Tree) → IsWhole t → HasFlag HostShareable t → FitsUniformBuffer t
whole_uniform (scalar s) whole host = (host, tt)
whole_uniform (vector n s) whole host = (host, tt)
whole_uniform (matrix columns rows s) whole host = (host, tt)
whole_uniform (cooperative_matrix columns rows s role) whole host = (host, tt)
whole_uniform (atomic s) whole host = (host, tt)
whole_uniform (pointer base space) whole host = (host, tt)
whole_uniform (value_pointer n s space) whole host = (host, tt)
whole_uniform (array base n stride) whole host = absurd whole
whole_uniform (struct ms span) whole host = absurd whole
whole_uniform (image dim arrayed class) whole host = (host, tt)
whole_uniform (sampler comparison) whole host = (host, tt)
whole_uniform (acceleration_structure vertex_return) whole host = (host, tt)
whole_uniform (ray_query vertex_return) whole host = (host, tt)
whole_uniform (binding_array base n) whole host = (host, tt)

pub whole_alignment : (t : Tree) → IsWhole t → alignment t ≡ uniform_alignment t
whole_alignment (scalar s) whole = refl
whole_alignment (vector n s) whole = refl
whole_alignment (matrix columns rows s) whole = refl
whole_alignment (cooperative_matrix columns rows s role) whole = refl
whole_alignment (atomic s) whole = refl
whole_alignment (pointer base space) whole = refl
whole_alignment (value_pointer n s space) whole = refl
whole_alignment (array base n stride) whole = absurd whole
whole_alignment (struct ms span) whole = absurd whole
whole_alignment (image dim arrayed class) whole = refl
whole_alignment (sampler comparison) whole = refl
whole_alignment (acceleration_structure vertex_return) whole = refl
whole_alignment (ray_query vertex_return) whole = refl
whole_alignment (binding_array base n) whole = refl

whole_fits : (t : Tree) → IsWhole t → IsScalarFit (tree_scalar t) → FitsImmediates t
whole_fits (scalar s) whole fit = fit
whole_fits (vector n s) whole fit = fit
whole_fits (matrix columns rows s) whole fit = fit
whole_fits (cooperative_matrix columns rows s role) whole fit = fit
whole_fits (atomic s) whole fit = fit
whole_fits (pointer base space) whole fit = fit
whole_fits (value_pointer n s space) whole fit = fit
whole_fits (array base n stride) whole fit = absurd whole
whole_fits (struct ms span) whole fit = absurd whole
whole_fits (image dim arrayed class) whole fit = fit
whole_fits (sampler comparison) whole fit = fit
whole_fits (acceleration_structure vertex_return) whole fit = fit
whole_fits (ray_query vertex_return) whole fit = fit
whole_fits (binding_array base n) whole fit = fit

pub whole_immediates : (t : Tree) (r : Result (Unit {0}) ImmediateError) → IsWhole t → MatchResult r (λ _. IsScalarFit (tree_scalar t)) (IsScalarUnfit (tree_scalar t)) → MatchResult r (λ _. FitsImmediates t) (IsUnfit t)
whole_immediates t (Ok u) whole h = whole_fits t whole h
whole_immediates t (Err (immediate.InvalidScalar s)) whole h = (somewhere_here (λ inside. tree_scalar inside ≡ Some s) t h.0, h.1)

pub whole_are : (tree : ℕ → Tree) (i : PlainInner) (set : TypeFlags) → AreOf set.0 (whole_flags i) → IsWhole (tree_by tree i) → AreFlags set (tree_by tree i)
whole_are tree (written_struct members span) set of whole = absurd whole
whole_are tree (plain (inner.Scalar s)) set of whole = of.each
whole_are tree (plain (inner.Vector n s)) set of whole = of.each
whole_are tree (plain (inner.Matrix columns rows s)) set of whole = of.each
whole_are tree (plain (inner.CooperativeMatrix columns rows s role)) set of whole = of.each
whole_are tree (plain (inner.Atomic s)) set of whole = of.each
whole_are tree (plain (inner.Pointer base space)) set of whole = of.each
whole_are tree (plain (inner.ValuePointer n s space)) set of whole = of.each
whole_are tree (plain (inner.Array base n stride)) set of whole = absurd whole
whole_are tree (plain (inner.Image dim arrayed class)) set of whole = of.each
whole_are tree (plain (inner.Sampler comparison)) set of whole = of.each
whole_are tree (plain (inner.AccelerationStructure vertex_return)) set of whole = of.each
whole_are tree (plain (inner.RayQuery vertex_return)) set of whole = of.each
whole_are tree (plain (inner.BindingArray base n)) set of whole = of.each
whole_are tree (plain (inner.Struct members span)) set of whole = of.each

pub at_whole : (c : TypeContext) (handle : ℕ) (i : PlainInner) → IsKnown c → Some i ≡ inner_at (types_in c) handle → IsWhole (tree_by (tree_in c) i) → IsWhole (tree_in c handle)
at_whole c handle i known at whole = subst IsWhole (sym (tree_of c handle i known at)) whole

pub at_flags : (c : TypeContext) (handle : ℕ) (i : PlainInner) (set : TypeFlags) → IsKnown c → Some i ≡ inner_at (types_in c) handle → AreOf set.0 (whole_flags i) → IsWhole (tree_by (tree_in c) i)
    → AreFlags set (tree_in c handle)
at_flags c handle i set known at of whole = subst (AreFlags set) (sym (tree_of c handle i known at)) (whole_are (tree_in c) i set of whole)

pub at_immediates : (c : TypeContext) (handle : ℕ) (i : PlainInner) (r : Result (Unit {0}) ImmediateError) → IsKnown c → Some i ≡ inner_at (types_in c) handle → IsWhole (tree_by (tree_in c) i)
    → MatchResult r (λ _. IsScalarFit (tree_scalar (tree_by (tree_in c) i))) (IsScalarUnfit (tree_scalar (tree_by (tree_in c) i))) → MatchResult r (λ _. FitsImmediates (tree_in c handle)) (IsUnfit (tree_in c handle))
at_immediates c handle i r known at whole h =
    subst (λ t. MatchResult r (λ _. FitsImmediates t) (IsUnfit t)) (sym (tree_of c handle i known at)) (whole_immediates (tree_by (tree_in c) i) r whole h)

-- ---- arrays and structs

pub array_at : (c : TypeContext) (f : Facts) (handle base stride : ℕ) (n : ArraySize) → tree_in c handle ≡ array (tree_in c base) n stride → AreFacts c (tree_in c base) f → IsArrayAt c f stride handle
array_at c f handle base stride n is facts = record { base = tree_in c base; count = n; is = is; facts = facts }

array_unfit : (base : Tree) (n : ArraySize) (stride : ℕ) (e : ImmediateError) → IsUnfit base e → IsUnfit (array base n stride) e
array_unfit base n stride (immediate.InvalidScalar s) h = (inr h.0, h.1)

array_fit : (base : Tree) (n : ArraySize) (stride : ℕ) (r : Result (Unit {0}) ImmediateError) → MatchResult r (λ _. FitsImmediates base) (IsUnfit base)
    → MatchResult r (λ _. FitsImmediates (array base n stride)) (IsUnfit (array base n stride))
array_fit base n stride (Ok u) h = (tt, h)
array_fit base n stride (Err e) h = array_unfit base n stride e h

pub array_immediates : (c : TypeContext) (handle base stride : ℕ) (n : ArraySize) (r : Result (Unit {0}) ImmediateError) → tree_in c handle ≡ array (tree_in c base) n stride
    → MatchResult r (λ _. FitsImmediates (tree_in c base)) (IsUnfit (tree_in c base)) → MatchResult r (λ _. FitsImmediates (tree_in c handle)) (IsUnfit (tree_in c handle))
array_immediates c handle base stride n r is h = subst (λ t. MatchResult r (λ _. FitsImmediates t) (IsUnfit t)) (sym is) (array_fit (tree_in c base) n stride r h)

pub array_tree : (c : TypeContext) (handle : ℕ) (i : TypeInner) (base size stride : _) → IsKnown c → Some (inner_view i) ≡ inner_at (types_in c) handle → i ≡ inner.Array base size stride
    → tree_in c handle ≡ array (tree_in c base) size stride
array_tree c handle i base size stride known at is = tree_of c handle (inner_view i) known at ∙ ap (λ x. tree_by (tree_in c) (inner_view x)) is

pub struct_tree : (c : TypeContext) (handle : ℕ) (i : TypeInner) (members span : _) (ms : _) → IsKnown c → Some (inner_view i) ≡ inner_at (types_in c) handle → i ≡ inner.Struct members span → ms ≡ members.items
    → IsStructOf c (map member_view ms) span handle
struct_tree c handle i members span ms known at is same = record {
  is = tree_of c handle (inner_view i) known at ∙ ap (λ x. tree_by (tree_in c) (inner_view x)) is ∙ ap (λ xs. struct (members_by (tree_in c) (map member_view xs)) span) (sym same);
}
