-- Decoding agrees with the encoding relation: rows and mapped forms.
use Rattle.std.proofs.Common.{◌≡◌, ◌≤◌, Option, Some, option_map, refl, sym, ap, subst, ◌∙◌, arith}
use Rattle.std.proofs.lemmas.Option.{same_Some}
use Rattle.serde_json.specs.Data.{Data, null, boolean, number, string, array, object, Items, no_items, item, depth, items_depth}
use Rattle.serde_json.specs.Find.{as_array}
use Rattle.document_forms.specs.found.Exact.{deepest, IsExact, IsExactRow}
use Rattle.document_forms.specs.judged.Form.{AnArray, Ends, ◌▸◌}
use Rattle.document_forms.specs.found.Decide.{end, behind, array_of}
use Rattle.document_forms.specs.found.Inverse.{bind_some, map_some, as_array_some}

pub end_exact : IsExactRow end (λ x. Ends)
end_exact = record { sound = found; complete = there }
  where
    found : (ds : Items) (x : Unit {0}) → end ds ≡ Some x → Ends ds
    found no_items x e = tt
    found (item d ds) x e = cc

    there : (ds : Items) (x : Unit {0}) → Ends ds → items_depth ds ≤ deepest → end ds ≡ Some x
    there no_items x h le = refl
    there (item d ds) x h le = absurd h

pub behind_exact : {A B : Type 0} (f : Data → Option A) (P : A → Data → Type 0) → IsExact f P → (g : Items → Option B) (Q : B → Items → Type 0) → IsExactRow g Q
    → IsExactRow (behind f g) (λ t. P t.0 ▸ Q t.1)
behind_exact {A} {B} f P fx g Q gx = record { sound = found; complete = there }
  where
    found : (ds : Items) (t : A × B) → behind f g ds ≡ Some t → (P t.0 ▸ Q t.1) ds
    found no_items t e = cc
    found (item d ds) t e =
        let a = bind_some _ (f d) t e in
        let b = bind_some _ (g ds) t a.2 in
        subst (λ u. (P u.0 ▸ Q u.1) (item d ds)) (same_Some (a.0, b.0) t b.2) (fx.sound d a.0 a.1, gx.sound ds b.0 b.1)

    there : (ds : Items) (t : A × B) → (P t.0 ▸ Q t.1) ds → items_depth ds ≤ deepest → behind f g ds ≡ Some t
    there no_items t h le = absurd h
    there (item d ds) t h le = rw (fx.complete d t.0 h.0 (omega arith)) (rw (gx.complete ds t.1 h.1 (omega arith)) refl)

-- a mapped row
pub made_row : {A B : Type 0} (f : Items → Option A) (Q : A → Items → Type 0) → IsExactRow f Q
    → (make : A → B) (parts : B → A) (R : B → Items → Type 0) → ((x : B) → make (parts x) ≡ x)
    → ((t : A) (ds : Items) → Q t ds → R (make t) ds) → ((x : B) (ds : Items) → R x ds → Q (parts x) ds)
    → IsExactRow (λ ds. option_map make (f ds)) R
made_row {A} {B} f Q exact make parts R again to from = record { sound = found; complete = there }
  where
    found : (ds : Items) (x : B) → option_map make (f ds) ≡ Some x → R x ds
    found ds x e =
        let a = map_some make (f ds) x e in
        subst (λ y. R y ds) a.2 (to a.0 ds (exact.sound ds a.0 a.1))

    there : (ds : Items) (x : B) → R x ds → items_depth ds ≤ deepest → option_map make (f ds) ≡ Some x
    there ds x h le = ap (option_map make) (exact.complete ds (parts x) (from x ds h) le) ∙ ap Some (again x)

-- an array with the elements of a row
pub array_exact : {A : Type 0} (f : Items → Option A) (Q : A → Items → Type 0) → IsExactRow f Q → IsExact (array_of f) (λ x. AnArray (Q x))
array_exact {A} f Q exact = record { sound = found; complete = there }
  where
    found : (d : Data) (x : A) → array_of f d ≡ Some x → AnArray (Q x) d
    found d x e =
        let b = bind_some f (as_array d) x e in
        subst (AnArray (Q x)) (sym (as_array_some d b.0 b.1)) (exact.sound b.0 x b.2)

    there : (d : Data) (x : A) → AnArray (Q x) d → depth d ≤ deepest → array_of f d ≡ Some x
    there null x h le = absurd h
    there (boolean b) x h le = absurd h
    there (number n) x h le = absurd h
    there (string s) x h le = absurd h
    there (array ds) x h le = exact.complete ds x h (omega arith)
    there (object ms) x h le = absurd h

-- a mapped form
pub made_exact : {A B : Type 0} (f : Data → Option A) (P : A → Data → Type 0) → IsExact f P
    → (make : A → B) (parts : B → A) (R : B → Data → Type 0) → ((x : B) → make (parts x) ≡ x)
    → ((t : A) (d : Data) → P t d → R (make t) d) → ((x : B) (d : Data) → R x d → P (parts x) d)
    → IsExact (λ d. option_map make (f d)) R
made_exact {A} {B} f P exact make parts R again to from = record { sound = found; complete = there }
  where
    found : (d : Data) (x : B) → option_map make (f d) ≡ Some x → R x d
    found d x e =
        let a = map_some make (f d) x e in
        subst (λ y. R y d) a.2 (to a.0 d (exact.sound d a.0 a.1))

    there : (d : Data) (x : B) → R x d → depth d ≤ deepest → option_map make (f d) ≡ Some x
    there d x h le = ap (option_map make) (exact.complete d (parts x) (from x d h) le) ∙ ap Some (again x)
