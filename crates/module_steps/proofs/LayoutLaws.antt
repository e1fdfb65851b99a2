-- Layouts of arrays and structs, from those of their parts.
use Rattle.std.proofs.Common.{◌≡◌, ◌≢◌, ◌<◌, ◌≤◌, ◌+◌, inr, ℕ, List, Option, Some, None, IfSome, Bool, if◌then◌else◌, Result, Ok, Err, MatchResult, max, refl, sym, ap, subst, ◌∙◌, arith}
use Rattle.std.specs.Int.{◌∣◌}
use Rattle.ir_types.specs.judged.Plain.{PlainMember}
use Rattle.ir_types.specs.declared.types.ArraySize.{ArraySize}
use Rattle.ir_types.specs.declared.types.ArraySize.TheVariants.{Constant, Pending, Dynamic}
use Rattle.module_steps.proofs.Inside.{everywhere_in, somewhere_struct, somewhere_here}
use Rattle.module_steps.specs.Layouts.{IsStructOf, IsStructAt, IsArrayAt, StoragePart, UniformPart, FitsAt, free_before, IsUniformAlignment}
use Rattle.typing_layout.specs.judged.Buffers.{StorageAt, FitsStorageBuffer, UniformAt, FitsUniformBuffer, uniform_alignment, free_after}
use Rattle.typing_layout.specs.judged.Flags.{HasFlag, HostShareable}
use Rattle.typing_layout.specs.judged.Immediates.{FitsImmediates}
use Rattle.typing_layout.specs.judged.Parts.{TreeMember, item_before, end_of, Somewhere}
use Rattle.typing_layout.specs.judged.Layout.{alignment, tree_scalar}
use Rattle.typing_layout.specs.judged.Tree.{Tree, array}
use Rattle.typing_layout.specs.judged.View.{members_by}
use Rattle.module_type_checks.specs.Known.{types_in, tree_in}
use Rattle.module_type_checks.specs.Placed.{parts_in, part_of, IsPlaced, IsBefore, AtPlace}
use Rattle.module_type_checks.specs.declared.context.TypeContext.{TypeContext}
use Rattle.module_type_checks.specs.declared.facts.Facts.{Facts}
use Rattle.module_type_checks.specs.declared.members.Placed.{Placed}
use Rattle.typing_layout.specs.found.BufferFaults.{IsBadStride, IsBadSpan, IsBadOffset, IsNearAfter, IsBroken, IsUnfit}
use Rattle.typing_layout.specs.declared.type_error.Disalignment.{Disalignment}
use Rattle.typing_layout.specs.declared.type_error.ImmediateError.{ImmediateError}
use Rattle.typing_layout.specs.declared.type_error.ImmediateError.TheVariants as immediate
use Rattle.typing_forms.specs.judged.Sizes.{rounded_up}

pub struct_at : (c : TypeContext) (ms : List PlainMember) (span handle : ℕ) → IsStructOf c ms span handle → IsStructAt c ms handle
struct_at c ms span handle own = record { span = span; is = own.is }

-- ---- faults

-- an invalid layout inside a member is one inside the struct
pub broken_part : (breaks : Disalignment → Tree → Type 0) (c : TypeContext) (ms : List PlainMember) (handle place : ℕ) (placed : Placed) (e : ℕ × Disalignment) (own : IsStructAt c ms handle) (at : IsPlaced c ms place placed)
    → IsBroken breaks (types_in c) (tree_in c at.m.ty) e → IsBroken breaks (types_in c) (tree_in c handle) e
broken_part breaks c ms handle place placed e own at h =
    somewhere_struct (λ inside. (inside ≡ tree_in c e.0) × breaks e.1 inside) (tree_in c handle) (members_by (tree_in c) ms) own.span place (part_of (tree_in c) at.m) own.is at.part h

pub broken_here : (breaks : Disalignment → Tree → Type 0) (c : TypeContext) (handle : ℕ) (d : Disalignment) → breaks d (tree_in c handle) → IsBroken breaks (types_in c) (tree_in c handle) (handle, d)
broken_here breaks c handle d h = somewhere_here (λ inside. (inside ≡ tree_in c handle) × breaks d inside) (tree_in c handle) (refl, h)

pub bad_offset : (part : Tree → ℕ) (c : TypeContext) (ms : List PlainMember) (handle place a : ℕ) (placed : Placed) (own : IsStructAt c ms handle) (at : IsPlaced c ms place placed) → a ≡ part (tree_in c at.m.ty)
    → ¬ (a ∣ placed.offset) → IsBadOffset part place placed.offset a (tree_in c handle)
bad_offset part c ms handle place a placed own at asked broken = record {
  members = members_by (tree_in c) ms;
  span = own.span;
  is = own.is;
  p = part_of (tree_in c) at.m;
  at = at.part;
  begins = at.told.begins;
  asked = asked;
  broken = broken;
}

pub bad_span : (c : TypeContext) (ms : List PlainMember) (span handle a : ℕ) → IsStructOf c ms span handle → a ≡ alignment (tree_in c handle) → ¬ (a ∣ span) → IsBadSpan span a (tree_in c handle)
bad_span c ms span handle a own asked broken = record { members = members_by (tree_in c) ms; is = own.is; asked = asked; broken = broken }

-- ---- storage

pub storage_part : (c : TypeContext) (ms : List PlainMember) (place a : ℕ) (placed : Placed) (at : IsPlaced c ms place placed) → FitsStorageBuffer (tree_in c at.m.ty) × (a ≡ alignment (tree_in c at.m.ty)) → a ∣ placed.offset
    → AtPlace StoragePart (parts_in c ms) place
storage_part c ms place a placed at laid d p e =
    let same : part_of (tree_in c) at.m ≡ p = (let x = at.part in let y = e in cc) in
    subst (StoragePart place) same (laid.0, subst (λ n. n ∣ at.m.offset) laid.1 (subst (λ n. a ∣ n) at.told.begins d))

pub storage_struct : (c : TypeContext) (ms : List PlainMember) (span handle : ℕ) → IsStructOf c ms span handle → HasFlag HostShareable (tree_in c handle) → ((k : ℕ) → AtPlace StoragePart (parts_in c ms) k)
    → alignment (tree_in c handle) ∣ span → FitsStorageBuffer (tree_in c handle)
storage_struct c ms span handle own host each d =
    subst FitsStorageBuffer (sym own.is) (
      subst (HasFlag HostShareable) own.is host,
      (((λ k p e. (each k p e).1), subst (λ x. alignment x ∣ span) own.is d), everywhere_in StorageAt (members_by (tree_in c) ms) (λ k p e. (each k p e).0.1)),
    )

array_host : (base : Tree) (n : ArraySize) (stride : ℕ) → HasFlag HostShareable base → HasFlag HostShareable (array base n stride)
array_host base (Constant n) stride h = (h, refl)
array_host base (Pending override) stride h = (h, refl)
array_host base Dynamic stride h = (h, refl)

pub storage_array : (c : TypeContext) (f : Facts) (stride handle a : ℕ) (own : IsArrayAt c f stride handle) → FitsStorageBuffer own.base × (a ≡ alignment own.base) → a ∣ stride
    → FitsStorageBuffer (tree_in c handle) × (a ≡ alignment (tree_in c handle))
storage_array c f stride handle a own laid d = (
  subst FitsStorageBuffer (sym own.is) (array_host own.base own.count stride laid.0.0, (subst (λ n. n ∣ stride) laid.1 d, laid.0.1)),
  laid.1 ∙ ap alignment (sym own.is),
)

pub array_broken : (breaks : Disalignment → Tree → Type 0) (c : TypeContext) (f : Facts) (stride handle : ℕ) (e : ℕ × Disalignment) (own : IsArrayAt c f stride handle) → IsBroken breaks (types_in c) own.base e
    → IsBroken breaks (types_in c) (tree_in c handle) e
array_broken breaks c f stride handle e own h = subst (Somewhere (λ inside. (inside ≡ tree_in c e.0) × breaks e.1 inside)) (sym own.is) (inr h)

pub bad_stride : (asks : Tree → ℕ → Type 0) (c : TypeContext) (f : Facts) (stride handle a : ℕ) (own : IsArrayAt c f stride handle) → asks own.base a → ¬ (a ∣ stride) → IsBadStride asks stride a (tree_in c handle)
bad_stride asks c f stride handle a own asked broken = record { base = own.base; count = own.count; is = own.is; asked = asked; broken = broken }

-- ---- uniform

pub uniform_of_placed : (c : TypeContext) (ms : List PlainMember) (place a : ℕ) (placed : Placed) (at : IsPlaced c ms place placed) → FitsUniformBuffer (tree_in c at.m.ty) × (a ≡ uniform_alignment (tree_in c at.m.ty))
    → IsUniformAlignment c placed.ty a
uniform_of_placed c ms place a placed at laid = subst (λ h. IsUniformAlignment c h a) (sym at.told.of) (record { laid = laid.0; aligned = laid.1 })

free_within : (o : Option TreeMember) (n : ℕ) → free_before o ≤ n → IfSome o (λ a. free_after a a.of_type ≤ n)
free_within None n le = tt
free_within (Some a) n le = le

pub uniform_part : (c : TypeContext) (ms : List PlainMember) (place a free : ℕ) (placed : Placed) (at : IsPlaced c ms place placed) → IsUniformAlignment c placed.ty a → a ∣ placed.offset
    → free ≡ free_before (item_before (parts_in c ms) place) → free ≤ placed.offset → AtPlace (UniformPart (parts_in c ms)) (parts_in c ms) place
uniform_part c ms place a free placed at laid d is le p e =
    let same : part_of (tree_in c) at.m ≡ p = (let x = at.part in let y = e in cc) in
    let here : IsUniformAlignment c at.m.ty a = subst (λ h. IsUniformAlignment c h a) at.told.of laid in
    subst (UniformPart (parts_in c ms) place) same (
      here.laid,
      subst (λ n. n ∣ at.m.offset) here.aligned (subst (λ n. a ∣ n) at.told.begins d),
      free_within (item_before (parts_in c ms) place) at.m.offset (subst (λ n. n ≤ at.m.offset) is (subst (λ n. free ≤ n) at.told.begins le)),
    )

some_before : (o : Option TreeMember) (n : ℕ) → n < free_before o → (q : TreeMember) × (o ≡ Some q)
some_before None n lt = absurd (omega arith)
some_before (Some q) n lt = (q, refl)

pub near_behind : (c : TypeContext) (ms : List PlainMember) (handle place free : ℕ) (placed : Placed) (own : IsStructAt c ms handle) (at : IsPlaced c ms place placed)
    → free ≡ free_before (item_before (parts_in c ms) place) → placed.offset < free → IsNearAfter place placed.offset free (tree_in c handle)
near_behind c ms handle place free placed own at is lt =
    let b = some_before (item_before (parts_in c ms) place) placed.offset (subst (λ n. placed.offset < n) is lt) in
    record {
      members = members_by (tree_in c) ms;
      span = own.span;
      is = own.is;
      p = part_of (tree_in c) at.m;
      at = at.part;
      q = b.0;
      behind = b.1;
      begins = at.told.begins;
      asked = is ∙ ap free_before b.1;
      near = lt;
    }

pub aligned_here : (c : TypeContext) (ms : List PlainMember) (place a : ℕ) (placed : Placed) (at : IsPlaced c ms place placed) → IsUniformAlignment c placed.ty a → a ≡ uniform_alignment (tree_in c at.m.ty)
aligned_here c ms place a placed at laid = (subst (λ h. IsUniformAlignment c h a) at.told.of laid).aligned

pub free_first : (c : TypeContext) (ms : List PlainMember) (place : ℕ) → place ≡ 0 → 0 ≡ free_before (item_before (parts_in c ms) place)
free_first c ms place first = subst (λ k. 0 ≡ free_before (item_before (parts_in c ms) k)) (sym first) refl

pub free_then : (c : TypeContext) (ms : List PlainMember) (place end free : ℕ) (last : Placed) (b : Bool) → IsBefore c ms place last → end ≡ last.offset + last.facts.size → last.facts.is_struct ≡ b
    → free ≡ (if b then rounded_up 16 end else 0) → free ≡ free_before (item_before (parts_in c ms) place)
free_then c ms place end free last b at is struct_is free_is =
    let q : TreeMember = part_of (tree_in c) at.m in
    let ends : end ≡ end_of q = is ∙ (λ i. at.told.begins i + at.told.facts.bytes i) in
    free_is ∙ ap (λ e. if b then rounded_up 16 e else 0) ends ∙ ap (λ x. if x then rounded_up 16 (end_of q) else 0) (sym struct_is) ∙ sym (at.told.facts.behind q) ∙ ap free_before (sym at.part)

pub uniform_struct : (c : TypeContext) (ms : List PlainMember) (span handle : ℕ) → IsStructOf c ms span handle → HasFlag HostShareable (tree_in c handle)
    → ((k : ℕ) → AtPlace (UniformPart (parts_in c ms)) (parts_in c ms) k) → alignment (tree_in c handle) ∣ span → FitsUniformBuffer (tree_in c handle)
uniform_struct c ms span handle own host each d =
    subst FitsUniformBuffer (sym own.is) (
      subst (HasFlag HostShareable) own.is host,
      (
        ((λ k p e. (each k p e).1), subst (λ x. alignment x ∣ span) own.is d, (λ k p e. (each k p e).2)),
        everywhere_in UniformAt (members_by (tree_in c) ms) (λ k p e. (each k p e).0.1),
      ),
    )

pub struct_sixteen : (c : TypeContext) (ms : List PlainMember) (span handle own_alignment a : ℕ) → IsStructOf c ms span handle → own_alignment ≡ alignment (tree_in c handle) → a ≡ max 16 own_alignment
    → a ≡ uniform_alignment (tree_in c handle)
struct_sixteen c ms span handle n a own aligned is = is ∙ ap (max 16) (aligned ∙ ap alignment own.is) ∙ ap uniform_alignment (sym own.is)

pub uniform_array : (c : TypeContext) (f : Facts) (stride handle a r : ℕ) (own : IsArrayAt c f stride handle) → FitsUniformBuffer own.base × (a ≡ uniform_alignment own.base) → a ∣ stride → 16 ∣ stride
    → r ≡ max 16 f.alignment → FitsUniformBuffer (tree_in c handle) × (r ≡ uniform_alignment (tree_in c handle))
uniform_array c f stride handle a r own laid d sixteen is = (
  subst FitsUniformBuffer (sym own.is) (array_host own.base own.count stride laid.0.0, ((subst (λ n. n ∣ stride) laid.1 d, sixteen), laid.0.1)),
  is ∙ ap (max 16) own.facts.aligned ∙ ap uniform_alignment (sym own.is),
)

-- ---- immediates

pub unfit_part : (c : TypeContext) (ms : List PlainMember) (handle place : ℕ) (placed : Placed) (e : ImmediateError) (own : IsStructAt c ms handle) (at : IsPlaced c ms place placed) → IsUnfit (tree_in c at.m.ty) e
    → IsUnfit (tree_in c handle) e
unfit_part c ms handle place placed (immediate.InvalidScalar s) own at h =
    (somewhere_struct (λ inside. tree_scalar inside ≡ Some s) (tree_in c handle) (members_by (tree_in c) ms) own.span place (part_of (tree_in c) at.m) own.is at.part h.0, h.1)

pub fit_part : (c : TypeContext) (ms : List PlainMember) (place : ℕ) (placed : Placed) (at : IsPlaced c ms place placed) → FitsImmediates (tree_in c at.m.ty) → AtPlace FitsAt (parts_in c ms) place
fit_part c ms place placed at h p e =
    let same : part_of (tree_in c) at.m ≡ p = (let x = at.part in let y = e in cc) in subst (FitsAt place) same h

pub member_fits : (c : TypeContext) (ms : List PlainMember) (handle place : ℕ) (placed : Placed) (own : IsStructAt c ms handle) (at : IsPlaced c ms place placed) (r : Result (Unit {0}) ImmediateError)
    → MatchResult r (λ _. FitsImmediates (tree_in c at.m.ty)) (IsUnfit (tree_in c at.m.ty)) → MatchResult r (λ _. AtPlace FitsAt (parts_in c ms) place) (IsUnfit (tree_in c handle))
member_fits c ms handle place placed own at (Ok u) h = fit_part c ms place placed at h
member_fits c ms handle place placed own at (Err e) h = unfit_part c ms handle place placed e own at h

pub fit_struct : (c : TypeContext) (ms : List PlainMember) (handle : ℕ) (own : IsStructAt c ms handle) → ((k : ℕ) → AtPlace FitsAt (parts_in c ms) k) → FitsImmediates (tree_in c handle)
fit_struct c ms handle own each = subst FitsImmediates (sym own.is) (tt, everywhere_in (λ inside. IfSome (tree_scalar inside) (λ s. s.width ≢ 2)) (members_by (tree_in c) ms) each)
