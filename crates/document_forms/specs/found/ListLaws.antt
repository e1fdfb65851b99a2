-- Decoding agrees with the encoding relation: lists and sets of words.
use Rattle.std.proofs.Common.{◌≡◌, ◌≤◌, ℕ, List, [], ◌∷◌, Option, Some, refl, sym, ap, subst, ◌∙◌, arith}
use Rattle.std.specs.Prelude.{fold}
use Rattle.std.proofs.lemmas.Option.{same_Some}
use Rattle.serde_json.specs.Data.{Data, null, boolean, number, string, array, object, Items, no_items, item, depth, items_depth}
use Rattle.serde_json.specs.Find.{as_array}
use Rattle.document_forms.specs.found.Exact.{deepest, IsExact}
use Rattle.document_forms.specs.judged.Form.{AWord, EachOf, AList, ASet}
use Rattle.document_forms.specs.found.Decide.{word_in, each, all_of, joins, set_of}
use Rattle.document_forms.specs.found.Inverse.{bind_some, as_array_some}
use Rattle.document_forms.specs.found.PartLaws.{word_exact}

pub list_exact : {A : Type 0} (f : Data → Option A) (P : A → Data → Type 0) → IsExact f P → IsExact (all_of f) (AList P)
list_exact {A} f P exact = record { sound = found; complete = there }
  where
    each_found : (ds : Items) (xs : List A) → each f ds ≡ Some xs → EachOf P xs ds
    each_found no_items [] e = tt
    each_found no_items (x ∷ xs) e = cc
    each_found (item d ds) ys e =
        let a = bind_some _ (f d) ys e in
        let b = bind_some _ (each f ds) ys a.2 in
        let ys_is : (a.0 ∷ b.0) ≡ ys = same_Some _ _ b.2 in
        subst (λ zs. EachOf P zs (item d ds)) ys_is (exact.sound d a.0 a.1, each_found ds b.0 b.1)

    found : (d : Data) (xs : List A) → all_of f d ≡ Some xs → AList P xs d
    found d xs e =
        let a = bind_some (each f) (as_array d) xs e in
        subst (AList P xs) (sym (as_array_some d a.0 a.1)) (each_found a.0 xs a.2)

    each_there : (ds : Items) (xs : List A) → EachOf P xs ds → items_depth ds ≤ deepest → each f ds ≡ Some xs
    each_there no_items [] h le = refl
    each_there no_items (x ∷ xs) h le = absurd h
    each_there (item d ds) [] h le = absurd h
    each_there (item d ds) (x ∷ xs) h le = rw (exact.complete d x h.0 (omega arith)) (rw (each_there ds xs h.1 (omega arith)) refl)

    there : (d : Data) (xs : List A) → AList P xs d → depth d ≤ deepest → all_of f d ≡ Some xs
    there null xs h le = absurd h
    there (boolean b) xs h le = absurd h
    there (number n) xs h le = absurd h
    there (string s) xs h le = absurd h
    there (array ds) xs h le = each_there ds xs h (omega arith)
    there (object ms) xs h le = absurd h

module _ {A : Type 0} (table : List (List ℕ × A)) (union : A → A → A) where
  joins_sound : (x : A) (ds : Items) (z : A) → joins table union x ds ≡ Some z → (words : List A) × EachOf (AWord table) words ds × (fold union x words ≡ z)
  joins_sound x no_items z e = ([], tt, same_Some x z e)
  joins_sound x (item d ds) z e =
      let a = bind_some _ (word_in table d) z e in
      let r = joins_sound (union x a.0) ds z a.2 in
      (a.0 ∷ r.0, ((word_exact table).sound d a.0 a.1, r.1), r.2)

  joins_complete : (x : A) (ds : Items) (words : List A) → EachOf (AWord table) words ds → items_depth ds ≤ deepest → joins table union x ds ≡ Some (fold union x words)
  joins_complete x no_items [] h le = refl
  joins_complete x no_items (w ∷ ws) h le = absurd h
  joins_complete x (item d ds) [] h le = absurd h
  joins_complete x (item d ds) (w ∷ ws) h le = rw ((word_exact table).complete d w h.0 (omega arith)) (joins_complete (union x w) ds ws h.1 (omega arith))

  pub set_exact : (none : A) → IsExact (set_of table none union) (ASet table none union)
  set_exact none = record { sound = found; complete = there }
    where
      found : (d : Data) (x : A) → set_of table none union d ≡ Some x → ASet table none union x d
      found d x e =
          let a = bind_some (joins table union none) (as_array d) x e in
          let r = joins_sound none a.0 x a.2 in
          (r.0, subst (AList (AWord table) r.0) (sym (as_array_some d a.0 a.1)) r.1, r.2)

      there : (d : Data) (x : A) → ASet table none union x d → depth d ≤ deepest → set_of table none union d ≡ Some x
      there null x h le = absurd h.1
      there (boolean b) x h le = absurd h.1
      there (number n) x h le = absurd h.1
      there (string s) x h le = absurd h.1
      there (array ds) x h le = joins_complete none ds h.0 h.1 (omega arith) ∙ ap Some h.2
      there (object ms) x h le = absurd h.1
