-- What the success of a step of decoding implies for the value.
use Rattle.std.proofs.Common.{◌≡◌, ◌⊎◌, inl, inr, ℕ, List, Option, Some, None, option_map, option_and_then, Bool, true, false, ◌&&◌, cond, refl, ap, subst, ◌∙◌}
use Rattle.std.specs.Str.{bytes_eq}
use Rattle.std.proofs.lemmas.Slice.Eq.{bytes_eq-Decides}
use Rattle.std.proofs.lemmas.Option.{same_Some}
use Rattle.serde_json.specs.Data.{Num, unsigned, negative, float, Data, null, boolean, number, string, array, object, Items, no_items, item}
use Rattle.serde_json.specs.Find.{as_array, as_str, as_number, as_u64, as_bool}
use Rattle.document_forms.specs.found.Decide.{whole_of, first, is_null}

pub bind_some : {A B : Type 0} (f : A → Option B) (o : Option A) (y : B) → option_and_then f o ≡ Some y → (x : A) × (o ≡ Some x) × (f x ≡ Some y)
bind_some f None y e = cc
bind_some f (Some x) y e = (x, refl, e)

pub map_some : {A B : Type 0} (f : A → B) (o : Option A) (y : B) → option_map f o ≡ Some y → (x : A) × (o ≡ Some x) × (f x ≡ y)
map_some f None y e = cc
map_some f (Some x) y e = (x, refl, cc)

pub chosen : {A : Type 0} (b : Bool) (x y z : A) → cond b x y ≡ z → ((b ≡ true) × (x ≡ z)) ⊎ ((b ≡ false) × (y ≡ z))
chosen true x y z e = inl (refl, e)
chosen false x y z e = inr (refl, e)

pub guarded : {A : Type 0} (b : Bool) (o : Option A) (y : A) → cond b o None ≡ Some y → (b ≡ true) × (o ≡ Some y)
guarded true o y e = (refl, e)
guarded false o y e = cc

pub both_true : (a b : Bool) → (a && b) ≡ true → (a ≡ true) × (b ≡ true)
both_true true b e = (refl, e)
both_true false b e = cc

pub is_word : (w v : List ℕ) → bytes_eq w v ≡ true → w ≡ v
is_word w v e = (bytes_eq-Decides w v).0 e

pub as_array_some : (d : Data) (ds : Items) → as_array d ≡ Some ds → d ≡ array ds
as_array_some null ds e = cc
as_array_some (boolean b) ds e = cc
as_array_some (number n) ds e = cc
as_array_some (string s) ds e = cc
as_array_some (array xs) ds e = cc
as_array_some (object ms) ds e = cc

pub as_str_some : (d : Data) (w : List ℕ) → as_str d ≡ Some w → d ≡ string w
as_str_some null w e = cc
as_str_some (boolean b) w e = cc
as_str_some (number n) w e = cc
as_str_some (string s) w e = cc
as_str_some (array xs) w e = cc
as_str_some (object ms) w e = cc

pub as_bool_some : (d : Data) (b : Bool) → as_bool d ≡ Some b → d ≡ boolean b
as_bool_some null b e = cc
as_bool_some (boolean c) b e = cc
as_bool_some (number n) b e = cc
as_bool_some (string s) b e = cc
as_bool_some (array xs) b e = cc
as_bool_some (object ms) b e = cc

pub as_number_some : (d : Data) (n : Num) → as_number d ≡ Some n → d ≡ number n
as_number_some null n e = cc
as_number_some (boolean b) n e = cc
as_number_some (number m) n e = cc
as_number_some (string s) n e = cc
as_number_some (array xs) n e = cc
as_number_some (object ms) n e = cc

as_u64_some : (m : Num) (n : ℕ) → as_u64 m ≡ Some n → m ≡ unsigned n
as_u64_some (unsigned k) n e = cc
as_u64_some (negative z) n e = cc
as_u64_some (float x) n e = cc

pub whole_some : (d : Data) (n : ℕ) → whole_of d ≡ Some n → d ≡ number (unsigned n)
whole_some d n e =
    let a = bind_some as_u64 (as_number d) n e in
    as_number_some d a.0 a.1 ∙ ap number (as_u64_some a.0 n a.2)

pub first_some : (ds : Items) (t : Data × Items) → first ds ≡ Some t → ds ≡ item t.0 t.1
first_some no_items t e = cc
first_some (item d ds) t e = let x = same_Some (d, ds) t e in subst (λ u. item d ds ≡ item u.0 u.1) x refl

pub is_null_true : (d : Data) → is_null d ≡ true → d ≡ null
is_null_true null e = refl
is_null_true (boolean b) e = cc
is_null_true (number n) e = cc
is_null_true (string s) e = cc
is_null_true (array xs) e = cc
is_null_true (object ms) e = cc
