-- Inclusion of bit flag sets, bit by bit.
use Rattle.std.proofs.Common.{◌≡◌, ◌≤◌, ◌∙◌, ◌^◌, ◌-◌, ℕ, min, ap, sym, refl, arith}
use Rattle.std.proofs.lemmas.Nat.Bits.{bit_at_and, bit_at_or, same_from_bits}
use Rattle.std.specs.Int.{bit_at}
use Rattle.std.specs.Int.RustNames.{bit_and, bit_or}
use Rattle.bitflags.specs.Sets.{known_from, known_bits}
use Rattle.ir_flags.specs.Sets.{IsWithin}
use Rattle.ir_flags.specs.Words.{storage_access_bits, barrier_bits, memory_decoration_bits, shader_stage_bits, subgroup_operation_bits, validation_flags, capability_bits}

least : (x y : ℕ) → x ≤ y → min y x ≡ x
least x y h = omega arith

least_below : (x y : ℕ) → x ≡ min y x → x ≤ y
least_below x y h = omega arith

-- a set is included in another exactly if no bit of it is greater
pub within-bits : (a b : ℕ) → IsWithin a b → (i : ℕ) → bit_at a i ≤ bit_at b i
within-bits a b h i = least_below (bit_at a i) (bit_at b i) (ap (λ s. bit_at s i) (sym h) ∙ bit_at_and b a i)

pub bits-within : (a b : ℕ) → ((i : ℕ) → bit_at a i ≤ bit_at b i) → IsWithin a b
bits-within a b below = same_from_bits (bit_and b a) a (λ i. bit_at_and b a i ∙ least (bit_at a i) (bit_at b i) (below i))

pub within-self : (a : ℕ) → IsWithin a a
within-self a = bits-within a a (λ i. omega arith)

pub within-over : (a b c : ℕ) → IsWithin a b → IsWithin b c → IsWithin a c
within-over a b c ab bc = bits-within a c (λ i. let p = within-bits a b ab i in let q = within-bits b c bc i in omega arith)

pub within-union_left : (a b : ℕ) → IsWithin a (bit_or a b)
within-union_left a b = bits-within a (bit_or a b) (λ i. let e = bit_at_or a b i in omega arith)

pub within-union_right : (a b : ℕ) → IsWithin b (bit_or a b)
within-union_right a b = bits-within b (bit_or a b) (λ i. let e = bit_at_or a b i in omega arith)

pub union-within : (a b c : ℕ) → IsWithin a c → IsWithin b c → IsWithin (bit_or a b) c
union-within a b c ac bc =
    bits-within (bit_or a b) c
    (λ i. let e = bit_at_or a b i in let p = within-bits a c ac i in let q = within-bits b c bc i in omega arith)

pub intersection-within_left : (a b : ℕ) → IsWithin (bit_and a b) a
intersection-within_left a b = bits-within (bit_and a b) a (λ i. let e = bit_at_and a b i in omega arith)

pub intersection-within_right : (a b : ℕ) → IsWithin (bit_and a b) b
intersection-within_right a b = bits-within (bit_and a b) b (λ i. let e = bit_at_and a b i in omega arith)

pub within-intersection : (a b c : ℕ) → IsWithin c a → IsWithin c b → IsWithin c (bit_and a b)
within-intersection a b c ca cb =
    bits-within c (bit_and a b)
    (λ i. let e = bit_at_and a b i in let p = within-bits c a ca i in let q = within-bits c b cb i in omega arith)

pub all_storage_access : known_bits storage_access_bits ≡ 2 ^ 3 - 1
unfolding known_from
all_storage_access = refl

pub all_barrier : known_bits barrier_bits ≡ 2 ^ 4 - 1
unfolding known_from
all_barrier = refl

pub all_memory_decorations : known_bits memory_decoration_bits ≡ 2 ^ 2 - 1
unfolding known_from
all_memory_decorations = refl

pub all_shader_stages : known_bits shader_stage_bits ≡ 2 ^ 9 - 1
unfolding known_from
all_shader_stages = refl

pub all_subgroup_operations : known_bits subgroup_operation_bits ≡ 2 ^ 7 - 1
unfolding known_from
all_subgroup_operations = refl

pub all_validation_flags : known_bits validation_flags ≡ 2 ^ 7 - 1
unfolding known_from
all_validation_flags = refl

pub all_capabilities : known_bits capability_bits ≡ 2 ^ 38 - 1
unfolding known_from
all_capabilities = refl
