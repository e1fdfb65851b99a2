-- An invalid layout inside a type makes the layout of the whole invalid.
use Rattle.std.proofs.Common.{◌≡◌, ◌∙◌, ◌≤◌, ◌⊎◌, ◌≢◌, inl, inr, ℕ, List, Some, IfSome, sym, ap, subst, arith}
use Rattle.std.specs.Int.{◌∣◌}
use Rattle.ir_types.specs.judged.Plain.{PlainType}
use Rattle.typing_layout.specs.judged.Buffers.{FitsStorageBuffer, FitsUniformBuffer, StorageAt, UniformAt, uniform_alignment, free_after}
use Rattle.typing_layout.specs.judged.Flags.{HasFlag, AllHave, HostShareable}
use Rattle.typing_layout.specs.judged.Immediates.{FitsImmediates}
use Rattle.typing_layout.specs.judged.Parts.{TreeMember, Everywhere, EverywhereIn, Somewhere, SomewhereIn}
use Rattle.typing_layout.specs.judged.Layout.{alignment, tree_scalar}
use Rattle.typing_layout.specs.judged.Tree.{Tree, scalar, vector, matrix, cooperative_matrix, atomic, pointer, value_pointer, array, struct, image, sampler, acceleration_structure, ray_query, binding_array, Members, no_members, member}
use Rattle.typing_layout.specs.judged.View.{type_tree}
use Rattle.typing_layout.specs.found.BufferFaults.{BreaksStorage, BreaksUniform, IsBroken, IsUnfit, IsBadStride, IsBadSpan, IsBadOffset, IsNearAfter}
use Rattle.typing_layout.specs.declared.type_error.Disalignment.{Disalignment}
use Rattle.typing_layout.specs.declared.type_error.Disalignment.TheVariants as fault
use Rattle.typing_layout.specs.declared.type_error.ImmediateError.{ImmediateError}
use Rattle.typing_layout.specs.declared.type_error.ImmediateError.TheVariants as immediate
use Rattle.ir_kinds.specs.declared.scalars.Scalar.{Scalar}

-- what holds everywhere excludes its opposite somewhere
mutual
  apart : (P Q : Tree → Type 0) → ((t : Tree) → P t → Q t → ⊥) → (t : Tree) → Everywhere P t → Somewhere Q t → ⊥
  apart P Q clash (array base n stride) p (inl q) = clash (array base n stride) p.0 q
  apart P Q clash (array base n stride) p (inr q) = apart P Q clash base p.1 q
  apart P Q clash (struct ms span) p (inl q) = clash (struct ms span) p.0 q
  apart P Q clash (struct ms span) p (inr q) = apart_in P Q clash ms p.1 q
  apart P Q clash (scalar s) p q = clash (scalar s) p q
  apart P Q clash (vector n s) p q = clash (vector n s) p q
  apart P Q clash (matrix columns rows s) p q = clash (matrix columns rows s) p q
  apart P Q clash (cooperative_matrix columns rows s role) p q = clash (cooperative_matrix columns rows s role) p q
  apart P Q clash (atomic s) p q = clash (atomic s) p q
  apart P Q clash (pointer base space) p q = clash (pointer base space) p q
  apart P Q clash (value_pointer n s space) p q = clash (value_pointer n s space) p q
  apart P Q clash (image dim arrayed class) p q = clash (image dim arrayed class) p q
  apart P Q clash (sampler comparison) p q = clash (sampler comparison) p q
  apart P Q clash (acceleration_structure vertex_return) p q = clash (acceleration_structure vertex_return) p q
  apart P Q clash (ray_query vertex_return) p q = clash (ray_query vertex_return) p q
  apart P Q clash (binding_array base n) p q = clash (binding_array base n) p q

  apart_in : (P Q : Tree → Type 0) → ((t : Tree) → P t → Q t → ⊥) → (ms : Members) → EverywhereIn P ms → SomewhereIn Q ms → ⊥
  apart_in P Q clash no_members p q = absurd q
  apart_in P Q clash (member t b o ms) p (inl q) = apart P Q clash t p.0 q
  apart_in P Q clash (member t b o ms) p (inr q) = apart_in P Q clash ms p.1 q

-- a type with a valid layout has only parts with valid layouts
mutual
  host_inside : (t : Tree) → HasFlag HostShareable t → Everywhere (HasFlag HostShareable) t
  host_inside (array base n stride) h = (h, host_inside base h.0)
  host_inside (struct ms span) h = (h, host_in ms h.0)
  host_inside (scalar s) h = h
  host_inside (vector n s) h = h
  host_inside (matrix columns rows s) h = h
  host_inside (cooperative_matrix columns rows s role) h = h
  host_inside (atomic s) h = h
  host_inside (pointer base space) h = h
  host_inside (value_pointer n s space) h = h
  host_inside (image dim arrayed class) h = h
  host_inside (sampler comparison) h = h
  host_inside (acceleration_structure vertex_return) h = h
  host_inside (ray_query vertex_return) h = h
  host_inside (binding_array base n) h = h

  host_in : (ms : Members) → AllHave HostShareable ms → EverywhereIn (HasFlag HostShareable) ms
  host_in no_members h = tt
  host_in (member t b o ms) h = (host_inside t h.0, host_in ms h.1)

-- an error at a type of a list
abbrev At : List PlainType → ℕ → (Tree → Type 0) → Tree → Type 0
At types type Q inside = (inside ≡ type_tree types type) × Q inside

-- ---- storage buffers

storage_stride : (stride a : ℕ) (t : Tree) → StorageAt t → IsBadStride (λ base n. n ≡ alignment base) stride a t → ⊥
storage_stride stride a t s q =
    let at : StorageAt (array q.base q.count stride) = subst StorageAt q.is s in
    q.broken (subst (λ n. n ∣ stride) (sym q.asked) at)

storage_span : (span a : ℕ) (t : Tree) → StorageAt t → IsBadSpan span a t → ⊥
storage_span span a t s q =
    let at : StorageAt (struct q.members span) = subst StorageAt q.is s in
    q.broken (subst (λ n. n ∣ span) (sym (q.asked ∙ ap alignment q.is)) at.1)

storage_offset : (index offset a : ℕ) (t : Tree) → StorageAt t → IsBadOffset alignment index offset a t → ⊥
storage_offset index offset a t s q =
    let at : StorageAt (struct q.members q.span) = subst StorageAt q.is s in
    let begins : alignment q.p.of_type ∣ q.p.offset = at.0 index q.p q.at in
    q.broken (subst (λ o. a ∣ o) (sym q.begins) (subst (λ n. n ∣ q.p.offset) (sym q.asked) begins))

pub storage_refuted : (types : List PlainType) (t : Tree) (type : ℕ) (d : Disalignment) → IsBroken BreaksStorage types t (type, d) → FitsStorageBuffer t → ⊥
storage_refuted types t type (fault.ArrayStride stride a) broken ok =
    apart StorageAt (At types type (BreaksStorage (fault.ArrayStride stride a))) (λ inside s q. storage_stride stride a inside s q.1) t ok.1 broken
storage_refuted types t type (fault.StructSpan span a) broken ok =
    apart StorageAt (At types type (BreaksStorage (fault.StructSpan span a))) (λ inside s q. storage_span span a inside s q.1) t ok.1 broken
storage_refuted types t type (fault.MemberOffset index offset a) broken ok =
    apart StorageAt (At types type (BreaksStorage (fault.MemberOffset index offset a))) (λ inside s q. storage_offset index offset a inside s q.1) t ok.1 broken
storage_refuted types t type (fault.MemberOffsetAfterStruct index offset expected) broken ok =
    apart StorageAt (At types type (BreaksStorage (fault.MemberOffsetAfterStruct index offset expected))) (λ inside s q. q.1) t ok.1 broken
storage_refuted types t type fault.NonHostShareable broken ok =
    apart (HasFlag HostShareable) (At types type (BreaksStorage fault.NonHostShareable)) (λ inside h q. q.1 h) t (host_inside t ok.0) broken

-- ---- uniform buffers

uniform_stride : (stride a : ℕ) (t : Tree) → UniformAt t → IsBadStride (λ base n. (n ≡ uniform_alignment base) ⊎ (n ≡ 16)) stride a t → ⊥
uniform_stride stride a t s q =
    let at : UniformAt (array q.base q.count stride) = subst UniformAt q.is s in
    elim q.asked [
      | inl e ↦ q.broken (subst (λ n. n ∣ stride) (sym e) at.0)
      | inr e ↦ q.broken (subst (λ n. n ∣ stride) (sym e) at.1)
    ]

uniform_span : (span a : ℕ) (t : Tree) → UniformAt t → IsBadSpan span a t → ⊥
uniform_span span a t s q =
    let at : UniformAt (struct q.members span) = subst UniformAt q.is s in
    q.broken (subst (λ n. n ∣ span) (sym (q.asked ∙ ap alignment q.is)) at.1)

uniform_offset : (index offset a : ℕ) (t : Tree) → UniformAt t → IsBadOffset uniform_alignment index offset a t → ⊥
uniform_offset index offset a t s q =
    let at : UniformAt (struct q.members q.span) = subst UniformAt q.is s in
    let begins : uniform_alignment q.p.of_type ∣ q.p.offset = at.0 index q.p q.at in
    q.broken (subst (λ o. a ∣ o) (sym q.begins) (subst (λ n. n ∣ q.p.offset) (sym q.asked) begins))

uniform_near : (index offset expected : ℕ) (t : Tree) → UniformAt t → IsNearAfter index offset expected t → ⊥
uniform_near index offset expected t s q =
    let at : UniformAt (struct q.members q.span) = subst UniformAt q.is s in
    let free : free_after q.q q.q.of_type ≤ q.p.offset = subst (λ o. IfSome o (λ (a : TreeMember). free_after a a.of_type ≤ q.p.offset)) q.behind (at.2 index q.p q.at) in
    let begins = q.begins in
    let asked = q.asked in
    let near = q.near in
    omega (arith, free, begins, asked, near)

pub uniform_refuted : (types : List PlainType) (t : Tree) (type : ℕ) (d : Disalignment) → IsBroken BreaksUniform types t (type, d) → FitsUniformBuffer t → ⊥
uniform_refuted types t type (fault.ArrayStride stride a) broken ok =
    apart UniformAt (At types type (BreaksUniform (fault.ArrayStride stride a))) (λ inside s q. uniform_stride stride a inside s q.1) t ok.1 broken
uniform_refuted types t type (fault.StructSpan span a) broken ok =
    apart UniformAt (At types type (BreaksUniform (fault.StructSpan span a))) (λ inside s q. uniform_span span a inside s q.1) t ok.1 broken
uniform_refuted types t type (fault.MemberOffset index offset a) broken ok =
    apart UniformAt (At types type (BreaksUniform (fault.MemberOffset index offset a))) (λ inside s q. uniform_offset index offset a inside s q.1) t ok.1 broken
uniform_refuted types t type (fault.MemberOffsetAfterStruct index offset expected) broken ok =
    apart UniformAt (At types type (BreaksUniform (fault.MemberOffsetAfterStruct index offset expected))) (λ inside s q. uniform_near index offset expected inside s q.1) t ok.1 broken
uniform_refuted types t type fault.NonHostShareable broken ok =
    apart (HasFlag HostShareable) (At types type (BreaksUniform fault.NonHostShareable)) (λ inside h q. q.1 h) t (host_inside t ok.0) broken

-- ---- immediate data

abbrev ImmediateAt : Tree → Type 0
ImmediateAt t = IfSome (tree_scalar t) (λ s. s.width ≢ 2)

unfit_at : (s : Scalar) → s.width ≡ 2 → (t : Tree) → ImmediateAt t → tree_scalar t ≡ Some s → ⊥
unfit_at s two t fits is = subst (λ o. IfSome o (λ (x : Scalar). x.width ≢ 2)) is fits two

pub unfit_refuted : (t : Tree) (e : ImmediateError) → IsUnfit t e → FitsImmediates t → ⊥
unfit_refuted t (immediate.InvalidScalar s) unfit fits = apart ImmediateAt (λ inside. tree_scalar inside ≡ Some s) (unfit_at s unfit.1) t fits unfit.0
