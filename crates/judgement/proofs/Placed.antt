-- The leaves of a buffer's type are in ascending order without overlap.
use Rattle.std.proofs.Common.{◌≡◌, ℕ, suc, ◌+◌, ◌*◌, ◌<◌, ◌≤◌, ◌⊎◌, inl, inr, List, [], ◌∷◌, map, Option, Some, IfSome, true≢false, refl, sym, subst, slice_get, length, arith}
use Rattle.std.specs.Int.{◌∣◌, IsPowerOfTwo}
use Rattle.std.proofs.lemmas.Nat.Gcd.{dvd_refl, dvd_trans, dvd-zero}
use Rattle.ir_kinds.specs.declared.bindings.Binding.{Binding}
use Rattle.ir_types.specs.declared.types.ArraySize.{ArraySize}
use Rattle.ir_types.specs.declared.types.ArraySize.TheVariants as count
use Rattle.judgement.proofs.Powers.{divides_max_left, divides_max_right, alignment_power, greatest_power, part_power, uniform_divides}
use Rattle.judgement.proofs.Runs.{Runs, runs_lower, runs_higher, runs_wider, runs_append, runs_inside, runs_repeated, runs_aligned, runs_fitting, runs_apart, runs_within}
use Rattle.judgement.specs.judged.Sound.{StrideOK, LeavesOK, ShapesOK, IsBuffer}
use Rattle.typing_layout.specs.judged.Buffers.{PartsAligned, StorageAt, UniformAt}
use Rattle.typing_layout.specs.judged.Flags.{HasFlag, AllHave, HostShareable, Sized, IsInOrder}
use Rattle.typing_layout.specs.judged.Layout.{size, alignment, greatest_alignment, LayoutOK}
use Rattle.judgement.specs.judged.Leaves.{leaf_inside, repeated, leaves, member_leaves}
use Rattle.typing_layout.specs.judged.Parts.{TreeMember, member_list, end_of, Everywhere, EverywhereIn}
use Rattle.typing_layout.specs.judged.Tree.{Tree, scalar, vector, matrix, cooperative_matrix, atomic, pointer, value_pointer, array, struct, image, sampler, acceleration_structure, ray_query, binding_array, Members, no_members, member}

-- runtime-sized arrays have one element, or none
abbrev Bounded : (held : ℕ) → Type 0 → Type 0
Bounded held sized = (held ≡ 1) ⊎ sized

record Run (held : ℕ) (t : Tree) : Type 0 where
  high : ℕ
  runs : Runs (alignment t) 0 (leaves held t) high
  within : Bounded held (HasFlag Sized t) → high ≤ size t

record MembersRun (held part : ℕ) (ms : Members) (low span a : ℕ) : Type 0 where
  high : ℕ
  runs : Runs a low (member_leaves held part ms) high
  within : Bounded held (AllHave Sized ms) → low ≤ span → high ≤ span

whole_runs : (a s : ℕ) → Runs a 0 (record { path = []; first = 0; length = s; alignment = a } ∷ []) s
whole_runs a s = (omega arith, dvd_refl a, dvd-zero a, omega arith)

-- ---- members

-- the first one's offset is at least this
abbrev BeginsFrom : ℕ → List TreeMember → Type 0
BeginsFrom low ps = (p : TreeMember) → slice_get ps 0 ≡ Some p → low ≤ p.offset

-- each one's offset is at or after the end of the previous one
abbrev Follow : List TreeMember → Type 0
Follow ps = (k : ℕ) (p q : TreeMember) → slice_get ps k ≡ Some p → slice_get ps (suc k) ≡ Some q → end_of p ≤ q.offset

in_order_follow : (ps : List TreeMember) → IsInOrder ps → Follow ps
in_order_follow ps ordered k p q e g = subst (λ o. IfSome o (λ a. end_of a ≤ q.offset)) e (ordered (suc k) q g)

-- what the checks of a struct say about its members
record Held (ps : List TreeMember) (span : ℕ) : Type 0 where
  sized : (k : ℕ) (p : TreeMember) → slice_get ps k ≡ Some p → suc k < length ps → HasFlag Sized p.of_type
  within : (k : ℕ) (p : TreeMember) → slice_get ps k ≡ Some p → end_of p ≤ span
  follow : Follow ps
  aligned : PartsAligned alignment ps

held_rest : (p : TreeMember) (ps : List TreeMember) (span : ℕ) → Held (p ∷ ps) span → Held ps span
held_rest p ps span h = record {
  sized = λ k q e lt. h.sized (suc k) q e (omega (arith, lt));
  within = λ k q e. h.within (suc k) q e;
  follow = λ k q r e g. h.follow (suc k) q r e g;
  aligned = λ k q e. h.aligned (suc k) q e;
}

more_than_one : (ps : List TreeMember) (p q : TreeMember) → slice_get ps 0 ≡ Some q → 1 < length (p ∷ ps)
more_than_one [] p q e = cc
more_than_one (r ∷ ps) p q e = omega arith

one_member : (held part : ℕ) (t : Tree) (binding : Option Binding) (offset : ℕ) (ms : Members) (low span a : ℕ) → Run held t → alignment t ∣ a → alignment t ∣ offset → low ≤ offset → offset + size t ≤ span
    → ((q : TreeMember) → slice_get (member_list ms) 0 ≡ Some q → HasFlag Sized t) → BeginsFrom (offset + size t) (member_list ms)
    → ((mid : ℕ) → BeginsFrom mid (member_list ms) → MembersRun held (suc part) ms mid span a) → MembersRun held part (member t binding offset ms) low span a
one_member held part t binding offset no_members low span a r d off start fits sized next rest =
    let moved : Runs a (offset + 0) (map (leaf_inside part offset) (leaves held t)) (offset + r.high) = runs_wider (alignment t) a _ _ _ d (runs_inside (alignment t) part offset 0 (leaves held t) r.high off r.runs) in
    let placed : Runs a low (map (leaf_inside part offset) (leaves held t)) (offset + r.high) = runs_lower a (offset + 0) low _ _ (omega arith) moved in
    record {
      high = offset + r.high;
      runs = runs_append a low _ (offset + r.high) [] (offset + r.high) placed (omega arith);
      within = λ b le. let small : r.high ≤ size t = r.within (elim b [ inl e ↦ inl e | inr s ↦ inr s.0 ]) in omega (arith, small, fits);
    }
one_member held part t binding offset (member t' b' o' ms) low span a r d off start fits sized next rest =
    let small : r.high ≤ size t = r.within (inr (sized _ refl)) in
    let moved : Runs a (offset + 0) (map (leaf_inside part offset) (leaves held t)) (offset + r.high) = runs_wider (alignment t) a _ _ _ d (runs_inside (alignment t) part offset 0 (leaves held t) r.high off r.runs) in
    let placed : Runs a low (map (leaf_inside part offset) (leaves held t)) (offset + size t) = runs_higher a low _ (offset + r.high) (offset + size t) (omega (arith, small)) (runs_lower a (offset + 0) low _ _ (omega arith) moved) in
    let q = rest (offset + size t) next in
    record {
      high = q.high;
      runs = runs_append a low _ (offset + size t) _ q.high placed q.runs;
      within = λ b le. q.within (elim b [ inl e ↦ inl e | inr s ↦ inr s.1 ]) fits;
    }

-- ---- elements

elements_run : (held : ℕ) (base : Tree) (stride n : ℕ) → Run held base → HasFlag Sized base → size base ≤ stride → alignment base ∣ stride
    → Runs (alignment base) 0 (repeated n 0 stride (leaves held base)) (n * stride)
elements_run held base stride n r sized le d =
    let small : r.high ≤ size base = r.within (inr sized) in
    runs_higher (alignment base) 0 _ ((0 + n) * stride) (n * stride) (omega arith)
    (runs_lower (alignment base) (0 * stride) 0 _ ((0 + n) * stride) (omega arith) (runs_repeated (alignment base) stride (leaves held base) r.high d r.runs (omega (arith, small, le)) n 0))

array_run : (held : ℕ) (base : Tree) (n : ArraySize) (stride : ℕ) → Run held base → HasFlag Sized base → size base ≤ stride → alignment base ∣ stride → Run held (array base n stride)
array_run held base (count.Constant n) stride r sized le d = record { high = n * stride; runs = elements_run held base stride n r sized le d; within = λ h. omega arith }
array_run held base (count.Pending o) stride r sized le d = record { high = 1 * stride; runs = elements_run held base stride 1 r sized le d; within = λ h. omega arith }
array_run held base count.Dynamic stride r sized le d = record {
  high = held * stride;
  runs = elements_run held base stride held r sized le d;
  within = λ h. elim h [ inl e ↦ subst (λ x. x * stride ≤ 1 * stride) (sym e) (omega arith) | inr e ↦ absurd (true≢false (sym e.1)) ];
}

-- ---- all

mutual
  leaves_run : (held : ℕ) (t : Tree) → Everywhere LayoutOK t → Everywhere ShapesOK t → Everywhere StrideOK t → Everywhere StorageAt t → HasFlag HostShareable t → Run held t
  leaves_run held (scalar s) laid ok strides storage host = record { high = size (scalar s); runs = whole_runs _ _; within = λ h. omega arith }
  leaves_run held (vector n s) laid ok strides storage host = record { high = size (vector n s); runs = whole_runs _ _; within = λ h. omega arith }
  leaves_run held (matrix columns rows s) laid ok strides storage host = record { high = size (matrix columns rows s); runs = whole_runs _ _; within = λ h. omega arith }
  leaves_run held (cooperative_matrix columns rows s role) laid ok strides storage host = record { high = size (cooperative_matrix columns rows s role); runs = whole_runs _ _; within = λ h. omega arith }
  leaves_run held (atomic s) laid ok strides storage host = record { high = size (atomic s); runs = whole_runs _ _; within = λ h. omega arith }
  leaves_run held (pointer base space) laid ok strides storage host = record { high = 0; runs = omega arith; within = λ h. omega arith }
  leaves_run held (value_pointer n s space) laid ok strides storage host = record { high = 0; runs = omega arith; within = λ h. omega arith }
  leaves_run held (array base n stride) laid ok strides storage host = array_run held base n stride (leaves_run held base laid.1 ok.1 strides.1 storage.1 host.0) ok.0 strides.0 storage.0
  leaves_run held (struct ms span) laid ok strides storage host =
      let h : Held (member_list ms) span = record {
        sized = λ k p e. (ok.0.each k p e).sized;
        within = λ k p e. (ok.0.each k p e).within;
        follow = in_order_follow (member_list ms) host.1;
        aligned = storage.0.0;
      } in
      let q = members_run held 0 ms 0 span (greatest_alignment ms) laid.1 ok.1 strides.1 storage.1 host.0 (dvd_refl (greatest_alignment ms)) (λ p e. omega arith) h in
      record { high = q.high; runs = q.runs; within = λ b. q.within b (omega arith) }
  leaves_run held (image dim arrayed class) laid ok strides storage host = record { high = 0; runs = omega arith; within = λ h. omega arith }
  leaves_run held (sampler comparison) laid ok strides storage host = record { high = 0; runs = omega arith; within = λ h. omega arith }
  leaves_run held (acceleration_structure vertex_return) laid ok strides storage host = record { high = 0; runs = omega arith; within = λ h. omega arith }
  leaves_run held (ray_query vertex_return) laid ok strides storage host = record { high = 0; runs = omega arith; within = λ h. omega arith }
  leaves_run held (binding_array base n) laid ok strides storage host = record { high = 0; runs = omega arith; within = λ h. omega arith }

  members_run : (held part : ℕ) (ms : Members) (low span a : ℕ) → EverywhereIn LayoutOK ms → EverywhereIn ShapesOK ms → EverywhereIn StrideOK ms → EverywhereIn StorageAt ms → AllHave HostShareable ms
      → greatest_alignment ms ∣ a → BeginsFrom low (member_list ms) → Held (member_list ms) span → MembersRun held part ms low span a
  members_run held part no_members low span a laid ok strides storage host d start h = record { high = low; runs = omega arith; within = λ b le. le }
  members_run held part (member t binding offset ms) low span a laid ok strides storage host d start h =
      let p : IsPowerOfTwo (alignment t) = alignment_power t laid.0 in
      let q : IsPowerOfTwo (greatest_alignment ms) = greatest_power ms laid.1 in
      let here : TreeMember = record { of_type = t; binding = binding; offset = offset } in
      one_member held part t binding offset ms low span a (leaves_run held t laid.0 ok.0 strides.0 storage.0 host.0) (dvd_trans (alignment t) (divides_max_left (alignment t) (greatest_alignment ms) p q) d)
      (h.aligned 0 here refl) (start here refl) (h.within 0 here refl) (λ r e. h.sized 0 here refl (more_than_one (member_list ms) here r e)) (λ r e. h.follow 0 here r refl e)
      (λ mid begins. members_run held (suc part) ms mid span a laid.1 ok.1 strides.1 storage.1 host.1 (dvd_trans (greatest_alignment ms) (divides_max_right (alignment t) (greatest_alignment ms) p q) d) begins (held_rest here (member_list ms) span h))

-- ---- a valid uniform layout implies a valid storage layout

mutual
  to_storage : (t : Tree) → Everywhere LayoutOK t → Everywhere UniformAt t → Everywhere StorageAt t
  to_storage (scalar s) laid u = tt
  to_storage (vector n s) laid u = tt
  to_storage (matrix columns rows s) laid u = tt
  to_storage (cooperative_matrix columns rows s role) laid u = tt
  to_storage (atomic s) laid u = tt
  to_storage (pointer base space) laid u = tt
  to_storage (value_pointer n s space) laid u = tt
  to_storage (array base n stride) laid u = (dvd_trans (alignment base) (uniform_divides base (alignment_power base laid.1)) u.0.0, to_storage base laid.1 u.1)
  to_storage (struct ms span) laid u = ((λ k p e. dvd_trans (alignment p.of_type) (uniform_divides p.of_type (part_power ms laid.1 k p e)) (u.0.0 k p e), u.0.1), to_storage_in ms laid.1 u.1)
  to_storage (image dim arrayed class) laid u = tt
  to_storage (sampler comparison) laid u = tt
  to_storage (acceleration_structure vertex_return) laid u = tt
  to_storage (ray_query vertex_return) laid u = tt
  to_storage (binding_array base n) laid u = tt

  to_storage_in : (ms : Members) → EverywhereIn LayoutOK ms → EverywhereIn UniformAt ms → EverywhereIn StorageAt ms
  to_storage_in no_members laid u = tt
  to_storage_in (member t binding offset ms) laid u = (to_storage t laid.0 u.0, to_storage_in ms laid.1 u.1)

sound : (t : Tree) → IsBuffer t → Everywhere StorageAt t → HasFlag HostShareable t → LeavesOK t
sound t b storage host =
    let at : (held : ℕ) → Run held t = λ held. leaves_run held t b.laid b.shaped b.strides storage host in
    record {
      aligned = λ held. runs_aligned _ 0 (leaves held t) (at held).high (at held).runs;
      fitting = λ held. runs_fitting _ 0 (leaves held t) (at held).high (at held).runs;
      apart = λ held. runs_apart _ 0 (leaves held t) (at held).high (at held).runs;
      within = runs_within _ 0 (leaves 1 t) (size t) (runs_higher _ 0 (leaves 1 t) (at 1).high (size t) ((at 1).within (inl refl)) (at 1).runs);
    }

pub buffer_sound : (t : Tree) → IsBuffer t → LeavesOK t
buffer_sound t b = elim b.serves [
  | inl s ↦ sound t b s.1 s.0
  | inr u ↦ sound t b (to_storage t b.laid u.1) u.0
]
