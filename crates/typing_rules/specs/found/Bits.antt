-- The one bits of an integer.
use Rattle.std.specs.Prelude.{◌≡◌, ◌↔◌, ◌<◌, ◌*◌, ◌/◌, ◌%◌, ◌^◌, ◌==◌, ℕ, zero, suc, List, [], ◌∷◌, Some, Bool, true, false, Contains, slice_get}
use Rattle.ir_flags.specs.Sets.{Has}

abbrev pub put_if : {A : Type 0} → Bool → A → List A → List A
put_if true x xs = x ∷ xs
put_if false x xs = xs

-- the elements at the indices of an integer's one bits, the lowest first
abbrev pub chosen : {A : Type 0} → ℕ → List A → List A
chosen bits [] = []
chosen bits (x ∷ xs) = put_if (bits % 2 == 1) x (chosen (bits / 2) xs)

-- for each item whether the bit of its index is set
abbrev pub marks : {A : Type 0} → ℕ → List A → List Bool
marks bits [] = []
marks bits (x ∷ xs) = (bits % 2 == 1) ∷ marks (bits / 2) xs

-- this many powers of two, starting with one
abbrev pub powers : ℕ → ℕ → List ℕ
powers power zero = []
powers power (suc count) = power ∷ powers (2 * power) count

-- the one bits of a 64-bit integer, each as a power of two, the lowest first
abbrev pub one_bits : ℕ → List ℕ
one_bits bits = chosen bits (powers 1 64)

-- each is greater than those before it, and than this number
abbrev pub IsRisingFrom : ℕ → List ℕ → Type 0
IsRisingFrom n [] = Unit {0}
IsRisingFrom n (x ∷ xs) = (n < x) × IsRisingFrom x xs

abbrev pub ArePowersOfTwo : List ℕ → Type 0
ArePowersOfTwo [] = Unit {0}
ArePowersOfTwo (x ∷ xs) = ((k : ℕ) × (x ≡ 2 ^ k)) × ArePowersOfTwo xs

-- a set of elements of this list has an item exactly if the bit of the item's index is set
abbrev pub MembersByBits : {A : Type 0} → List A → Type 0
MembersByBits {A} items = (set place : ℕ) (item : A) → slice_get items place ≡ Some item → Contains (chosen set items) item ↔ Has set (2 ^ place)
