-- Decoding after a tag agrees with the encoding relation.
use Rattle.std.specs.Prelude.{◌≡◌, ◌≤◌, ℕ, List, [], ◌∷◌, Option, Some, option_map}
use Rattle.std.proofs.Common.{inl, inr, arith, sym, ap, subst, ◌∙◌}
use Rattle.std.specs.List.{AllByRecursion}
use Rattle.std.specs.Str.{bytes_eq}
use Rattle.std.proofs.lemmas.Option.{same_Some}
use Rattle.serde_json.specs.Data.{Data, null, boolean, number, string, array, object, Items, no_items, item, depth, items_depth}
use Rattle.serde_json.specs.Find.{as_array, as_str}
use Rattle.document_words.specs.Lookup.{lookup}
use Rattle.document_forms.specs.found.Exact.{deepest, IsExact, IsExactRow, RowOf}
use Rattle.document_forms.specs.judged.Form.{AText, AnArray, ◌▸◌}
use Rattle.document_forms.specs.found.Decide.{word_in, first, tag_of, of_kind, tag_in, tagged_of}
use Rattle.document_forms.specs.found.Inverse.{bind_some, map_some, chosen, is_word, as_str_some, as_array_some, first_some}

-- an array of this tag and the elements of its kind
abbrev pub Tagged : List ℕ → (Items → Type 0) → Data → Type 0
Tagged w q = AnArray (AText w ▸ q)

-- the decoder of each table entry's kind is sound for that entry's tag
abbrev pub AreSound : {A K : Type 0} → (K → Items → Option A) → (A → Items → Type 0) → List (List ℕ × K) → Type 0
AreSound f R table = AllByRecursion (λ e. (ds : Items) (x : _) → f e.1 ds ≡ Some x → R x (item (string e.0) ds)) table

-- a kind that is a mapped row
pub kind_sound : {A T : Type 0} (row : RowOf T) (make : T → A) (w : List ℕ) (R : A → Items → Type 0) → ((t : T) (ds : Items) → row.Written t ds → R (make t) (item (string w) ds))
    → (ds : Items) (x : A) → option_map make (row.find ds) ≡ Some x → R x (item (string w) ds)
kind_sound row make w R to ds x e =
    let a = map_some make (row.find ds) x e in
    subst (λ y. R y (item (string w) ds)) a.2 (to a.0 ds (row.exact.sound ds a.0 a.1))

module _ {A K : Type 0} (table : List (List ℕ × K)) (f : K → Items → Option A) where
  pub kind_complete : {T : Type 0} (row : RowOf T) (make : T → A) (w : List ℕ) (k : K) → lookup w table ≡ Some k → ((ds : Items) → f k ds ≡ option_map make (row.find ds))
      → (t : T) (ds : Items) → (AText w ▸ row.Written t) ds → items_depth ds ≤ deepest → of_kind table f ds ≡ Some (make t)
  kind_complete row make w k there is t no_items h le = absurd h
  kind_complete row make w k there is t (item e es) h le =
      rw h.0 (rw there (is es ∙ ap (option_map make) (row.exact.complete es t h.1 (omega arith))))

  pub tagged_complete : {T : Type 0} (row : RowOf T) (make : T → A) (w : List ℕ) (k : K) → lookup w table ≡ Some k → ((ds : Items) → f k ds ≡ option_map make (row.find ds))
      → (t : T) (d : Data) → Tagged w (row.Written t) d → depth d ≤ deepest → tagged_of table f d ≡ Some (make t)
  tagged_complete row make w k there is t null h le = absurd h
  tagged_complete row make w k there is t (boolean b) h le = absurd h
  tagged_complete row make w k there is t (number n) h le = absurd h
  tagged_complete row make w k there is t (string s) h le = absurd h
  tagged_complete row make w k there is t (array ds) h le = kind_complete row make w k there is t ds h (omega arith)
  tagged_complete row make w k there is t (object ms) h le = absurd h

  kinds_sound : (R : A → Items → Type 0) (es : List (List ℕ × K)) → AreSound f R es → (w : List ℕ) (k : K) → lookup w es ≡ Some k
      → (ds : Items) (x : A) → f k ds ≡ Some x → R x (item (string w) ds)
  kinds_sound R [] right w k e ds x found = cc
  kinds_sound R (t ∷ ts) right w k e ds x found =
      elim (chosen (bytes_eq w t.0) _ _ _ e) [
        | inl here ↦
            let k_is : t.1 ≡ k = same_Some _ _ here.1 in
            subst (λ v. R x (item (string v) ds)) (sym (is_word w t.0 here.0)) (right.0 ds x (subst (λ j. f j ds ≡ Some x) (sym k_is) found))
        | inr there ↦ kinds_sound R ts right.1 w k there.1 ds x found
      ]

  kind_found : (R : A → Items → Type 0) → AreSound f R table → (ds : Items) (t : K × Items) (x : A) → tag_of table ds ≡ Some t → f t.0 t.1 ≡ Some x → R x ds
  kind_found R right ds t x tag e =
      let one = bind_some _ (first ds) t tag in
      let k = bind_some _ (word_in table one.0.0) t one.2 in
      let w = bind_some _ (as_str one.0.0) k.0 k.1 in
      let t_is : (k.0, one.0.1) ≡ t = same_Some _ _ k.2 in
      let last : f k.0 one.0.1 ≡ Some x = subst (λ u. f u.0 u.1 ≡ Some x) (sym t_is) e in
      let d_is : one.0.0 ≡ string w.0 = as_str_some one.0.0 w.0 w.1 in
      let ds_is : ds ≡ item one.0.0 one.0.1 = first_some ds one.0 one.1 in
      subst (R x) (sym (ds_is ∙ ap (λ y. item y one.0.1) d_is)) (kinds_sound R table right w.0 k.0 w.2 one.0.1 x last)

  -- decoding by the kind agrees with the encoding relation, if each kind does
  pub kinds_exact : (R : A → Items → Type 0) → AreSound f R table → ((x : A) (ds : Items) → R x ds → items_depth ds ≤ deepest → of_kind table f ds ≡ Some x)
      → IsExactRow (of_kind table f) R
  kinds_exact R right there = record { sound = λ ds x e. let t = bind_some _ (tag_of table ds) x e in kind_found R right ds t.0 x t.1 t.2; complete = λ ds x h le. there x ds h le }

  -- the same for arrays
  pub tagged_sound : (R : A → Data → Type 0) → AreSound f (λ x ds. R x (array ds)) table → (d : Data) (x : A) → tagged_of table f d ≡ Some x → R x d
  tagged_sound R right d x e =
      let t = bind_some _ (tag_in table d) x e in
      let a = bind_some (tag_of table) (as_array d) t.0 t.1 in
      subst (R x) (sym (as_array_some d a.0 a.1)) (kind_found (λ y ds. R y (array ds)) right a.0 t.0 x a.2 t.2)

  pub tagged_exact : (R : A → Data → Type 0) → AreSound f (λ x ds. R x (array ds)) table → ((x : A) (d : Data) → R x d → depth d ≤ deepest → tagged_of table f d ≡ Some x)
      → IsExact (tagged_of table f) R
  tagged_exact R right there = record { sound = tagged_sound R right; complete = λ d x h le. there x d h le }

-- a property of each entry of a table holds of the result of a lookup
pub lookup_keeps : {A : Type 0} (P : A → Type 0) (table : List (List ℕ × A)) → AllByRecursion (λ e. P e.1) table → (w : List ℕ) (x : A) → lookup w table ≡ Some x → P x
lookup_keeps P [] all w x e = cc
lookup_keeps P (t ∷ ts) all w x e =
    elim (chosen (bytes_eq w t.0) _ _ _ e) [
      | inl here ↦ subst P (same_Some t.1 x here.1) all.0
      | inr there ↦ lookup_keeps P ts all.1 w x there.1
    ]
