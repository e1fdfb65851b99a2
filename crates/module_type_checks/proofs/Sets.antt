-- Sets of type flags, flag by flag.
use Rattle.std.proofs.Common.{◌≡◌, true, false, true≢false, ◌∙◌, bit_or, ◌↔◌, ℕ, List, [], ◌∷◌, Bool, ◌==◌, IsTrue, refl, sym, subst, bit_and}
use Rattle.std.proofs.lemmas.Nat.{and_or_apart}
use Rattle.std.proofs.lemmas.Bool.Decides.{Decides-eqb}
use Rattle.ir_flags.proofs.SetLaws.{within-union_right, within-intersection, within-over, intersection-within_left, intersection-within_right}
use Rattle.ir_flags.specs.Sets.{Has}
use Rattle.ir_types.specs.declared.types.ArraySize.TheVariants as count
use Rattle.module_type_checks.specs.Sets.{AreOf, HostIf, AreKept, IoIs, AreShared}
use Rattle.typing_layout.specs.judged.Flags.{TypeFlag, bit, among, Data, Sized, Copy, IoShareable, HostShareable, CreationResolved, Argument, Constructible, value_flags, shareable_flags, shared_pointer_flags, resource_flags, array_flags}
use Rattle.module_type_checks.specs.Kinds.{atomic_flags, query_flags, binding_array_flags}

pub by_flags : (P : TypeFlag → Type 0) → P Data → P Sized → P Copy → P IoShareable → P HostShareable → P CreationResolved → P Argument → P Constructible → (f : TypeFlag) → P f
by_flags P a b c d e g h i Data = a
by_flags P a b c d e g h i Sized = b
by_flags P a b c d e g h i Copy = c
by_flags P a b c d e g h i IoShareable = d
by_flags P a b c d e g h i HostShareable = e
by_flags P a b c d e g h i CreationResolved = g
by_flags P a b c d e g h i Argument = h
by_flags P a b c d e g h i Constructible = i

-- a flag is in the bits exactly if it is in the list
abbrev Agree : ℕ → List TypeFlag → TypeFlag → Type 0
Agree set flags f = (bit_and set (bit f) == bit f) ≡ among flags f

are_of : (set : ℕ) (flags : List TypeFlag) → ((f : TypeFlag) → Agree set flags f) → AreOf set flags
are_of set flags same = record {
  each = λ f.
      let d = Decides-eqb (bit_and set (bit f)) (bit f) in
      ((λ h. subst IsTrue (same f) (d.1 h)), (λ t. d.0 (subst IsTrue (sym (same f)) t)));
}

pub value_set : AreOf 231 value_flags
value_set = are_of 231 value_flags (by_flags (Agree 231 value_flags) refl refl refl refl refl refl refl refl)

pub shareable_set : AreOf 247 shareable_flags
shareable_set = are_of 247 shareable_flags (by_flags (Agree 247 shareable_flags) refl refl refl refl refl refl refl refl)

abbrev pub number_flags : List TypeFlag
number_flags = IoShareable ∷ shareable_flags

pub number_set : AreOf 255 number_flags
number_set = are_of 255 number_flags (by_flags (Agree 255 number_flags) refl refl refl refl refl refl refl refl)

pub atomic_set : AreOf 51 atomic_flags
atomic_set = are_of 51 atomic_flags (by_flags (Agree 51 atomic_flags) refl refl refl refl refl refl refl refl)

pub far_set : AreOf 38 shared_pointer_flags
far_set = are_of 38 shared_pointer_flags (by_flags (Agree 38 shared_pointer_flags) refl refl refl refl refl refl refl refl)

abbrev pub invocation_pointer_flags : List TypeFlag
invocation_pointer_flags = Argument ∷ shared_pointer_flags

pub own_set : AreOf 102 invocation_pointer_flags
own_set = are_of 102 invocation_pointer_flags (by_flags (Agree 102 invocation_pointer_flags) refl refl refl refl refl refl refl refl)

pub resource_set : AreOf 96 resource_flags
resource_set = are_of 96 resource_flags (by_flags (Agree 96 resource_flags) refl refl refl refl refl refl refl refl)

pub query_set : AreOf 163 query_flags
query_set = are_of 163 query_flags (by_flags (Agree 163 query_flags) refl refl refl refl refl refl refl refl)

pub binding_array_set : AreOf 32 binding_array_flags
binding_array_set = are_of 32 binding_array_flags (by_flags (Agree 32 binding_array_flags) refl refl refl refl refl refl refl refl)

pub empty_set : AreOf 0 []
empty_set = are_of 0 [] (by_flags (Agree 0 []) refl refl refl refl refl refl refl refl)

pub pending_set : (override : ℕ) → AreOf 87 (array_flags (count.Pending override))
pending_set override = are_of 87 (array_flags (count.Pending override)) (by_flags (Agree 87 (array_flags (count.Pending override))) refl refl refl refl refl refl refl refl)

pub dynamic_set : AreOf 53 (array_flags count.Dynamic)
dynamic_set = are_of 53 (array_flags count.Dynamic) (by_flags (Agree 53 (array_flags count.Dynamic)) refl refl refl refl refl refl refl refl)

-- ---- intersections

pub both_have : (a b x : ℕ) → Has (bit_and a b) x ↔ (Has a x × Has b x)
both_have a b x = (
  (λ h. (within-over x (bit_and a b) a h (intersection-within_left a b), within-over x (bit_and a b) b h (intersection-within_right a b))),
  (λ h. within-intersection a b x h.0 h.1),
)

-- ---- all flags but one

abbrev but_host : List TypeFlag
but_host = IoShareable ∷ value_flags

but_host_set : AreOf 239 but_host
but_host_set = are_of 239 but_host (by_flags (Agree 239 but_host) refl refl refl refl refl refl refl refl)

host_if : (f : TypeFlag) → IsTrue (among but_host f) ↔ HostIf f false
host_if = by_flags (λ f. IsTrue (among but_host f) ↔ HostIf f false) ((λ _. tt), (λ _. refl)) ((λ _. tt), (λ _. refl)) ((λ _. tt), (λ _. refl)) ((λ _. tt), (λ _. refl)) ((λ h. h), (λ h. h)) ((λ _. tt), (λ _. refl)) ((λ _. tt), (λ _. refl)) ((λ _. tt), (λ _. refl))

host_always : (f : TypeFlag) → HostIf f true
host_always = by_flags (λ f. HostIf f true) tt tt tt tt refl tt tt tt

pub kept_in : (set : ℕ) → AreKept set true set
kept_in set = record { each = λ f. ((λ h. (h, host_always f)), (λ h. h.0)) }

pub kept_out : (set : ℕ) → AreKept set false (bit_and set 239)
kept_out set = record {
  each = λ f.
      let two = both_have set 239 (bit f) in let mask = but_host_set.each f in
      ((λ h. ((two.0 h).0, (host_if f).0 (mask.0 (two.0 h).1))), (λ h. two.1 (h.0, mask.1 ((host_if f).1 h.1))));
}

abbrev IoKept : ℕ → ℕ → Bool → TypeFlag → Type 0
IoKept set new b f = Has new (bit f) ↔ IoIs f (Has set (bit f)) b

with_io : (set : ℕ) (f : TypeFlag) → bit_and 8 (bit f) ≡ 0 → Has (bit_or set 8) (bit f) ↔ Has set (bit f)
with_io set f apart = let e : bit_and (bit_or set 8) (bit f) ≡ bit_and set (bit f) = and_or_apart (bit f) set 8 apart in ((λ h. sym e ∙ h), (λ h. e ∙ h))

pub shared_in : (set : ℕ) → AreShared set true (bit_or set 8)
shared_in set = record {
  each = by_flags (IoKept set (bit_or set 8) true) (with_io set Data refl) (with_io set Sized refl) (with_io set Copy refl) ((λ _. refl), (λ _. within-union_right set 8)) (with_io set HostShareable refl)
      (with_io set CreationResolved refl) (with_io set Argument refl) (with_io set Constructible refl);
}

without_io : (set : ℕ) (f : TypeFlag) → Has 247 (bit f) → Has (bit_and set 247) (bit f) ↔ Has set (bit f)
without_io set f has = let two = both_have set 247 (bit f) in ((λ h. (two.0 h).0), (λ h. two.1 (h, has)))

pub shared_out : (set : ℕ) → AreShared set false (bit_and set 247)
shared_out set = record {
  each = by_flags (IoKept set (bit_and set 247) false) (without_io set Data refl) (without_io set Sized refl) (without_io set Copy refl)
      ((λ h. (shareable_set.each IoShareable).0 ((both_have set 247 8).0 h).1), (λ h. absurd (true≢false (sym h)))) (without_io set HostShareable refl) (without_io set CreationResolved refl) (without_io set Argument refl)
      (without_io set Constructible refl);
}
