-- The basic forms, from which all others are built.
use Rattle.std.specs.Prelude.{◌≡◌, ◌≤◌, ℕ, ℤ, Bool, List, Option, Some, None, option_map, refl}
use Rattle.serde_json.specs.Data.{Data, null, array, Items, depth, items_depth}
use Rattle.serde_json.specs.Find.{as_bool, as_str}
use Rattle.ir_kinds.specs.declared.scalars.VectorSize.{VectorSize}
use Rattle.ir_kinds.specs.declared.scalars.CooperativeSize.{CooperativeSize}
use Rattle.document_forms.specs.declared.limits.TheConstants.{MAX_HANDLE, MAX_U8, MAX_U16, MAX_U32, MAX_U64, MAX_I16, MAX_I32, MAX_I64}
use Rattle.document_forms.specs.found.Exact.{deepest, IsExact, FormOf, RowOf}
use Rattle.document_forms.specs.judged.Form.{ANumber, ASigned, AVectorSize, ACooperativeSize, ABool, AText, AWord, ASet, Maybe, AList, AnArray, Ends, ◌▸◌}
use Rattle.document_forms.specs.found.Decide.{number_of, signed_of, size_of, side_of, word_in, set_of, optional, all_of, end, behind, array_of, of_kind, tagged_of}
use Rattle.document_forms.specs.found.PartLaws.{number_exact, signed_exact, size_exact, side_exact, bool_exact, text_exact, word_exact, optional_exact}
use Rattle.document_forms.specs.found.ListLaws.{list_exact, set_exact}
use Rattle.document_forms.specs.found.RowLaws.{end_exact, behind_exact, made_row, array_exact, made_exact}
use Rattle.document_forms.specs.found.KindLaws.{AreSound, kinds_exact, tagged_exact}

abbrev pub a_number : ℕ → FormOf ℕ
a_number high = record { find = number_of high; Written = ANumber high; exact = number_exact high }

abbrev pub a_handle : FormOf ℕ
a_handle = a_number MAX_HANDLE

abbrev pub a_u8 : FormOf ℕ
a_u8 = a_number MAX_U8

abbrev pub a_u16 : FormOf ℕ
a_u16 = a_number MAX_U16

abbrev pub a_u32 : FormOf ℕ
a_u32 = a_number MAX_U32

abbrev pub a_u64 : FormOf ℕ
a_u64 = a_number MAX_U64

abbrev pub a_signed : ℕ → FormOf ℤ
a_signed high = record { find = signed_of high; Written = ASigned high; exact = signed_exact high }

abbrev pub a_i16 : FormOf ℤ
a_i16 = a_signed MAX_I16

abbrev pub a_i32 : FormOf ℤ
a_i32 = a_signed MAX_I32

abbrev pub a_i64 : FormOf ℤ
a_i64 = a_signed MAX_I64

abbrev pub a_size : FormOf VectorSize
a_size = record { find = size_of; Written = AVectorSize; exact = size_exact }

abbrev pub a_side : FormOf CooperativeSize
a_side = record { find = side_of; Written = ACooperativeSize; exact = side_exact }

abbrev pub a_bool : FormOf Bool
a_bool = record { find = as_bool; Written = ABool; exact = bool_exact }

abbrev pub a_text : FormOf (List ℕ)
a_text = record { find = as_str; Written = AText; exact = text_exact }

abbrev pub a_word : {A : Type 0} → List (List ℕ × A) → FormOf A
a_word table = record { find = word_in table; Written = AWord table; exact = word_exact table }

abbrev pub a_set : {A : Type 0} → List (List ℕ × A) → A → (A → A → A) → FormOf A
a_set table none union = record { find = set_of table none union; Written = ASet table none union; exact = set_exact table union none }

-- the item or null; if null encodes an item itself, the relation is what is decoded
abbrev pub maybe_written : {A : Type 0} → FormOf A → Option A → Option A → Data → Type 0
maybe_written f None = Maybe f.Written
maybe_written f (Some y) = λ o d. optional f.find d ≡ Some o

pub maybe_exact : {A : Type 0} (f : FormOf A) (o : Option A) → f.find null ≡ o → IsExact (optional f.find) (maybe_written f o)
maybe_exact f None e = optional_exact f.find f.Written e f.exact
maybe_exact f (Some y) e = record { sound = λ d x h. h; complete = λ d x h le. h }

abbrev pub maybe : {A : Type 0} → FormOf A → FormOf (Option A)
maybe f = record { find = optional f.find; Written = maybe_written f (f.find null); exact = maybe_exact f (f.find null) refl }

abbrev pub a_list : {A : Type 0} → FormOf A → FormOf (List A)
a_list f = record { find = all_of f.find; Written = AList f.Written; exact = list_exact f.find f.Written f.exact }

-- ---- rows

abbrev pub ends : RowOf (Unit {0})
ends = record { find = end; Written = λ x. Ends; exact = end_exact }

infixr 10 ◌▹◌
abbrev pub ◌▹◌ : {A B : Type 0} → FormOf A → RowOf B → RowOf (A × B)
f ▹ g = record { find = behind f.find g.find; Written = λ t. f.Written t.0 ▸ g.Written t.1; exact = behind_exact f.find f.Written f.exact g.find g.Written g.exact }

-- a row with its result mapped
abbrev pub row_made : {A B : Type 0} (f : RowOf A) (make : A → B) (parts : B → A) (R : B → Items → Type 0) → ((x : B) → make (parts x) ≡ x)
    → ((t : A) (ds : Items) → f.Written t ds → R (make t) ds) → ((x : B) (ds : Items) → R x ds → f.Written (parts x) ds) → RowOf B
row_made f make parts R again to from = record { find = λ ds. option_map make (f.find ds); Written = R; exact = made_row f.find f.Written f.exact make parts R again to from }

-- a tagged row, if each kind's decoder is sound and all encodings are decoded
abbrev pub row_by_kind : {A K : Type 0} (table : List (List ℕ × K)) (f : K → Items → Option A) (R : A → Items → Type 0) → AreSound f R table
    → ((x : A) (ds : Items) → R x ds → items_depth ds ≤ deepest → of_kind table f ds ≡ Some x) → RowOf A
row_by_kind table f R sound complete = record { find = of_kind table f; Written = R; exact = kinds_exact table f R sound complete }

-- ---- arrays

abbrev pub an_array : {A : Type 0} → RowOf A → FormOf A
an_array f = record { find = array_of f.find; Written = λ x. AnArray (f.Written x); exact = array_exact f.find f.Written f.exact }

-- a form with its result mapped
abbrev pub made : {A B : Type 0} (f : FormOf A) (make : A → B) (parts : B → A) (R : B → Data → Type 0) → ((x : B) → make (parts x) ≡ x)
    → ((t : A) (d : Data) → f.Written t d → R (make t) d) → ((x : B) (d : Data) → R x d → f.Written (parts x) d) → FormOf B
made f make parts R again to from = record { find = λ d. option_map make (f.find d); Written = R; exact = made_exact f.find f.Written f.exact make parts R again to from }

-- a tagged array, if each kind's decoder is sound and all encodings are decoded
abbrev pub by_kind : {A K : Type 0} (table : List (List ℕ × K)) (f : K → Items → Option A) (R : A → Data → Type 0) → AreSound f (λ x ds. R x (array ds)) table
    → ((x : A) (d : Data) → R x d → depth d ≤ deepest → tagged_of table f d ≡ Some x) → FormOf A
by_kind table f R sound complete = record { find = tagged_of table f; Written = R; exact = tagged_exact table f R sound complete }
