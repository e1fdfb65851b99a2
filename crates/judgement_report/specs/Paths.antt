-- The paths of leaves as text.
use Rattle.std.specs.Prelude.{ℕ, List, [], ◌∷◌, ◌++◌, Bool, true, false, ◌||◌, ◌&&◌, not, ◌==◌, if◌then◌else◌, Option, Some, None, slice_get, codes, decimal}
use Rattle.std.specs.Char.{is_ascii, is_ascii_digit, is_ascii_alphanumeric}
use Rattle.ir_types.specs.judged.Plain.{PlainMember, PlainInner, struct, plain, PlainType}
use Rattle.ir_types.specs.declared.types.TypeInner.TheVariants as inner
use Rattle.judgement_report.specs.Runs.{Step, to_part, to_each}
use Rattle.typing_forms.specs.judged.Resolutions.{inner_at}

-- ---- the steps of a path

-- an ASCII letter, a digit, an underscore, or a byte of a non-ASCII character
abbrev pub is_word_byte : ℕ → Bool
is_word_byte b = is_ascii_alphanumeric b || (b == 95) || not (is_ascii b)

abbrev pub are_word_bytes : List ℕ → Bool
are_word_bytes [] = true
are_word_bytes (b ∷ bs) = is_word_byte b && are_word_bytes bs

-- a name that is written unchanged: of such bytes, the first of which is not a digit
abbrev pub is_word : List ℕ → Bool
is_word [] = false
is_word (b ∷ bs) = not (is_ascii_digit b) && are_word_bytes (b ∷ bs)

-- the step of a member: its name, if that is a plain word, or else its index
abbrev pub member_word : (name : Option (List ℕ)) → (number : ℕ) → List ℕ
member_word None number = decimal number
member_word (Some name) number = if is_word name then name else decimal number

-- a dot after the preceding path, if that is not empty
abbrev pub dot_after : (before : List ℕ) → List ℕ
dot_after [] = []
dot_after (b ∷ bs) = codes "."

-- the index range of elements from 0 on
abbrev pub range_word : (count : ℕ) → List ℕ
range_word count = if count == 1 then codes "0" else codes "0.." ++ decimal count

-- a path extended by a step to a member, and by a step to each of `n` elements
abbrev pub to_member : (before : List ℕ) → (name : Option (List ℕ)) → (number : ℕ) → List ℕ
to_member before name number = before ++ dot_after before ++ member_word name number

abbrev pub to_elements : (before : List ℕ) → (count : ℕ) → List ℕ
to_elements before count = before ++ (codes "[" ++ range_word count ++ codes "]")

-- the stride of elements, if there are several
abbrev pub stride_word : Step → List ℕ
stride_word (to_part number) = []
stride_word (to_each count stride) = if count == 1 then [] else codes " stride " ++ decimal stride

abbrev pub stride_words : List Step → List ℕ
stride_words [] = []
stride_words (step ∷ steps) = stride_word step ++ stride_words steps

-- ---- along the types of a module

-- the parts of a value: the members of a struct or the elements of an array, each of the type at a handle, or none; with a path
pub data Parts : Type 0 where
  named : List PlainMember → Parts
  numbered : (base : ℕ) → Parts
  alone : Parts

abbrev pub parts_by : PlainInner → Parts
parts_by (struct ms span) = named ms
parts_by (plain (inner.Array base size stride)) = numbered base
parts_by (plain other) = alone

abbrev pub parts_found : Option PlainInner → Parts
parts_found (Some i) = parts_by i
parts_found None = alone

abbrev pub parts_at : List PlainType → (handle : ℕ) → Parts
parts_at types handle = parts_found (inner_at types handle)

-- to an existing member, and its parts
abbrev pub to_found : (before : List ℕ) → Option PlainMember → (number : ℕ) → List ℕ
to_found before (Some m) number = to_member before m.name number
to_found before None number = before

abbrev pub parts_of_found : List PlainType → Option PlainMember → Parts
parts_of_found types (Some m) = parts_at types m.ty
parts_of_found types None = alone

-- the path with these steps, after a path to a value with these parts
abbrev pub path_along : List PlainType → (before : List ℕ) → Parts → List Step → List ℕ
path_along types before parts [] = before
path_along types before (named ms) (to_part k ∷ steps) = path_along types (to_found before (slice_get ms k) k) (parts_of_found types (slice_get ms k)) steps
path_along types before (named ms) (to_each count stride ∷ steps) = before
path_along types before (numbered base) (to_each count stride ∷ steps) = path_along types (to_elements before count) (parts_at types base) steps
path_along types before (numbered base) (to_part k ∷ steps) = before
path_along types before alone (step ∷ steps) = before
