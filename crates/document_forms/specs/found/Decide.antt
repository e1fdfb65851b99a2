-- Decoding functions; `Form` has the encoding relations that they decide.
use Rattle.std.specs.Prelude.{ℕ, ℤ, pos, negsuc, Bool, true, false, ◌&&◌, List, [], ◌∷◌, Option, Some, None, option_map, option_and_then, if◌then◌else◌, nat_le, int_lt, int_le, ◌==◌}
use Rattle.serde_json.specs.Data.{Data, null, Items, no_items, item}
use Rattle.serde_json.specs.Find.{as_array, as_str, as_number, as_u64, as_i64}
use Rattle.ir_kinds.specs.declared.scalars.VectorSize.{VectorSize}
use Rattle.ir_kinds.specs.declared.scalars.VectorSize.TheVariants.{Bi, Tri, Quad}
use Rattle.ir_kinds.specs.declared.scalars.CooperativeSize.{CooperativeSize}
use Rattle.ir_kinds.specs.declared.scalars.CooperativeSize.TheVariants.{Eight, Sixteen}
use Rattle.document_words.specs.Lookup.{lookup}

infixl 10 ◌>>=◌
abbrev pub ◌>>=◌ : {A B : Type 0} → Option A → (A → Option B) → Option B
o >>= f = option_and_then f o

-- ---- numbers

abbrev pub whole_of : Data → Option ℕ
whole_of d = as_number d >>= as_u64

abbrev pub number_of : ℕ → Data → Option ℕ
number_of high d = do
  n ← whole_of d
  if nat_le n high then Some n else None

abbrev pub small : ℕ → ℕ → Option ℤ
small high n = if nat_le n high then Some (pos n) else None

abbrev pub below_zero : ℕ → ℤ → Option ℤ
below_zero high z = if int_lt z (pos 0) && int_le (negsuc high) z then Some z else None

-- f applied to the number, or d if there is none
abbrev pub or_else : {A B : Type 0} → Option A → (A → Option B) → Option B → Option B
or_else None f d = d
or_else (Some x) f d = f x

abbrev pub signed_of : ℕ → Data → Option ℤ
signed_of high d = or_else (whole_of d) (small high) ((as_number d >>= as_i64) >>= below_zero high)

abbrev pub size_in : ℕ → Option VectorSize
size_in n = if n == 2 then Some Bi else (if n == 3 then Some Tri else (if n == 4 then Some Quad else None))

abbrev pub size_of : Data → Option VectorSize
size_of d = whole_of d >>= size_in

abbrev pub side_in : ℕ → Option CooperativeSize
side_in n = if n == 8 then Some Eight else (if n == 16 then Some Sixteen else None)

abbrev pub side_of : Data → Option CooperativeSize
side_of d = whole_of d >>= side_in

-- ---- words

abbrev pub word_in : {A : Type 0} → List (List ℕ × A) → Data → Option A
word_in table d = as_str d >>= (λ w. lookup w table)

-- ---- options

abbrev pub is_null : Data → Bool
is_null null = true
is_null _ = false

abbrev pub optional : {A : Type 0} → (Data → Option A) → Data → Option (Option A)
optional f d = if is_null d then Some None else option_map Some (f d)

-- ---- lists

abbrev pub each : {A : Type 0} → (Data → Option A) → Items → Option (List A)
each f no_items = Some []
each f (item d ds) = do
  x ← f d
  xs ← each f ds
  Some (x ∷ xs)

abbrev pub all_of : {A : Type 0} → (Data → Option A) → Data → Option (List A)
all_of f d = as_array d >>= each f

-- x joined with the sets of the words
abbrev pub joins : {A : Type 0} → List (List ℕ × A) → (A → A → A) → A → Items → Option A
joins table union x no_items = Some x
joins table union x (item d ds) = do
  y ← word_in table d
  joins table union (union x y) ds

abbrev pub set_of : {A : Type 0} → List (List ℕ × A) → A → (A → A → A) → Data → Option A
set_of table none union d = as_array d >>= joins table union none

-- ---- rows

abbrev pub first : Items → Option (Data × Items)
first no_items = None
first (item d ds) = Some (d, ds)

-- the end of the elements
abbrev pub end : Items → Option (Unit {0})
end no_items = Some tt
end (item d ds) = None

-- the first element, and the result for those after it
abbrev pub behind : {A B : Type 0} → (Data → Option A) → (Items → Option B) → Items → Option (A × B)
behind f g ds = do
  t ← first ds
  x ← f t.0
  y ← g t.1
  Some (x, y)

-- an array with the elements of a row
abbrev pub array_of : {A : Type 0} → (Items → Option A) → Data → Option A
array_of f d = as_array d >>= f

-- the tag, and the elements after it
abbrev pub tag_of : {K : Type 0} → List (List ℕ × K) → Items → Option (K × Items)
tag_of table ds = do
  t ← first ds
  k ← word_in table t.0
  Some (k, t.1)

-- the result for the elements after the tag, by the kind that the tag denotes
abbrev pub of_kind : {A K : Type 0} → List (List ℕ × K) → (K → Items → Option A) → Items → Option A
of_kind table f ds = do
  t ← tag_of table ds
  f t.0 t.1

-- the same for an array
abbrev pub tag_in : {K : Type 0} → List (List ℕ × K) → Data → Option (K × Items)
tag_in table d = as_array d >>= tag_of table

abbrev pub tagged_of : {A K : Type 0} → List (List ℕ × K) → (K → Items → Option A) → Data → Option A
tagged_of table f d = do
  t ← tag_in table d
  f t.0 t.1
