-- The contents of a list followed by a set, after one more value is inserted.
use Rattle.std.proofs.Common.{◌≡◌, Bool, true, false, ◌||◌, List, [], ◌∷◌, ◌++◌, length, refl, sym, ap, ◌∙◌, subst, if◌then◌else◌}
use Rattle.std.proofs.lemmas.List.{append-nil, append_assoc, nil_from_length}
use Rattle.std.proofs.lemmas.List.Folds.{list_any-append}
use Rattle.std.specs.List.{list_any}
use Rattle.indexmap.specs.IndexSet.{insert_key}

module _ {T : Type 0} (eq : T → T → Bool) where
  abbrev added : Bool → List T → T → List T
  added b ks k = if b then ks else ks ++ k ∷ []

  -- membership is tested in both parts
  in_both : (few more : List T) (k : T) (b : Bool) → list_any (eq k) few ≡ b → insert_key eq (few ++ more) k ≡ added (b || list_any (eq k) more) (few ++ more) k
  in_both few more k b e = ap (λ z. added z (few ++ more) k) (list_any-append (eq k) few more ∙ ap (λ z. z || list_any (eq k) more) e)

  pub there : (few more : List T) (k : T) → list_any (eq k) few ≡ true → few ++ more ≡ insert_key eq (few ++ more) k
  there few more k e = sym (in_both few more k true e)

  alone : (few : List T) (k : T) → list_any (eq k) few ≡ false → (few ++ k ∷ []) ++ [] ≡ insert_key eq (few ++ []) k
  alone few k e = append-nil (few ++ k ∷ []) ∙ sym (ap (λ ks. insert_key eq ks k) (append-nil few) ∙ ap (λ b. added b few k) e)

  pub first : (few more : List T) (k : T) → list_any (eq k) few ≡ false → length more ≡ 0 → (few ++ k ∷ []) ++ more ≡ insert_key eq (few ++ more) k
  first few more k e none = subst (λ m. (few ++ k ∷ []) ++ m ≡ insert_key eq (few ++ m) k) (sym (nil_from_length more none)) (alone few k e)

  behind : (b : Bool) (few more : List T) (k : T) → few ++ added b more k ≡ added b (few ++ more) k
  behind true few more k = refl
  behind false few more k = sym (append_assoc few more (k ∷ []))

  pub later : (few more : List T) (k : T) → list_any (eq k) few ≡ false → few ++ insert_key eq more k ≡ insert_key eq (few ++ more) k
  later few more k e = behind (list_any (eq k) more) few more k ∙ sym (in_both few more k false e)
