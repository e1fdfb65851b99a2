-- The encoding relations: which JSON value encodes an item. Each is a predicate on a value, or on the elements of an array.
use Prim.Native.String.{String}
use Rattle.std.specs.Prelude.{◌≡◌, ℕ, ℤ, pos, negsuc, ◌≤◌, Bool, List, [], ◌∷◌, Option, Some, None, codes, fold}
use Rattle.serde_json.specs.Data.{Data, null, boolean, number, unsigned, negative, string, array, Items, no_items, item}
use Rattle.ir_kinds.specs.declared.scalars.VectorSize.{VectorSize}
use Rattle.ir_kinds.specs.declared.scalars.CooperativeSize.{CooperativeSize}
use Rattle.ir_kinds.specs.judged.Scalars.{component_count, cooperative_count}
use Rattle.document_words.specs.Lookup.{lookup}
use Rattle.document_forms.specs.declared.limits.TheConstants.{MAX_HANDLE, MAX_U32}

-- ---- integers, and numbers from a fixed set

-- an integer from 0 to `high`
abbrev pub ANumber : (high n : ℕ) → Data → Type 0
ANumber high n d = (d ≡ number (unsigned n)) × (n ≤ high)

-- the index of an item in its list
abbrev pub AHandle : ℕ → Data → Type 0
AHandle n d = ANumber MAX_HANDLE n d

abbrev pub AU32 : ℕ → Data → Type 0
AU32 n d = ANumber MAX_U32 n d

-- an integer from `-(high + 1)` to `high`
abbrev pub ASigned : (high : ℕ) → ℤ → Data → Type 0
ASigned high (pos n) d = ANumber high n d
ASigned high (negsuc n) d = (d ≡ number (negative (negsuc n))) × (n ≤ high)

-- the number of components of a vector
abbrev pub AVectorSize : VectorSize → Data → Type 0
AVectorSize s d = d ≡ number (unsigned (component_count s))

abbrev pub ACooperativeSize : CooperativeSize → Data → Type 0
ACooperativeSize s d = d ≡ number (unsigned (cooperative_count s))

-- ---- bools, strings, words

abbrev pub ABool : Bool → Data → Type 0
ABool b d = d ≡ boolean b

abbrev pub AText : List ℕ → Data → Type 0
AText w d = d ≡ string w

-- a word of the table that denotes x
abbrev pub AWord : {A : Type 0} → List (List ℕ × A) → A → Data → Type 0
AWord table x (string w) = lookup w table ≡ Some x
AWord table x _ = ⊥

-- ---- options, rows and lists

abbrev pub Maybe : {A : Type 0} → (A → Data → Type 0) → Option A → Data → Type 0
Maybe P None d = d ≡ null
Maybe P (Some x) d = P x d

-- no more elements
abbrev pub Ends : Items → Type 0
Ends no_items = Unit {0}
Ends (item d ds) = ⊥

-- an element p, followed by the elements q
infixr 10 ◌▸◌
abbrev pub ◌▸◌ : (Data → Type 0) → (Items → Type 0) → Items → Type 0
◌▸◌ p q no_items = ⊥
◌▸◌ p q (item d ds) = p d × q ds

-- an element for each item, in order
abbrev pub EachOf : {A : Type 0} → (A → Data → Type 0) → List A → Items → Type 0
EachOf P [] = Ends
EachOf P (x ∷ xs) = P x ▸ EachOf P xs

-- an array with these elements
abbrev pub AnArray : (Items → Type 0) → Data → Type 0
AnArray q (array ds) = q ds
AnArray q _ = ⊥

abbrev pub AList : {A : Type 0} → (A → Data → Type 0) → List A → Data → Type 0
AList P xs d = AnArray (EachOf P xs) d

-- an array of this tag, followed by the elements of its kind
infixr 5 ◌with◌
abbrev pub ◌with◌ : String → (Items → Type 0) → Data → Type 0
word with q = AnArray (AText (codes word) ▸ q)

-- words of the table in any order, repeated or not, the union of whose sets is this
abbrev pub ASet : {A : Type 0} → List (List ℕ × A) → (none : A) → (A → A → A) → A → Data → Type 0
ASet {A} table none union x d = (words : List A) × (AList (AWord table) words d) × (fold union none words ≡ x)
