-- The items of a list before the one that is rejected.
use Rattle.std.proofs.Common.{◌≡◌, ◌≢◌, List, ◌∷◌, ◌++◌, map, Option, Some, None, option_map, option_and_then, Result, Ok, Err, IfOk, IfErr, refl, sym, subst, ◌∙◌}
use Rattle.serde_json.specs.Data.{Data, Items, item}
use Rattle.document_forms.specs.found.Answers.{Answers}
use Rattle.document_forms.specs.found.Decide.{each}
use Rattle.document_forms.specs.found.Refusals.{NoneTaken}
use Rattle.document_forms.specs.declared.error.ReadError.{ReadError}
use Rattle.document_forms.specs.declared.error.ReadError.TheVariants.{Memory}

pub none_taken : {T A : Type 0} (refuses : List T → T → Type 0) (view : T → A) (o : Option (List A)) → None ≡ o → NoneTaken refuses view o
none_taken refuses view o e = subst (NoneTaken refuses view) e tt

-- a collection that rejects nothing takes every decoded list
pub none_found : {T A : Type 0} (view : T → A) (o : Option (List A)) → NoneTaken (λ xs x. ⊥) view o → None ≡ o
none_found view None h = refl
none_found view (Some xs) h = absurd h.refused

pub list_answers : {T A C : Type 0} (view : T → A) (items : C → List A) (o : Option (List A)) (r : Result C ReadError) → IfOk r (λ c. Some (items c) ≡ o) → IfErr r (λ e. e ≢ Memory → NoneTaken (λ (xs : List T) x. ⊥) view o)
    → Answers r (λ found. option_map items found ≡ o)
list_answers view items o (Ok c) found refused = found
list_answers view items o (Err e) found refused = λ n. none_found view o (refused n)

-- after the items that were appended, the next item is decoded and rejected
pub refused_here : {T A : Type 0} (refuses : List T → T → Type 0) (view : T → A) (f : Data → Option A) (taken : List T) (x : T) (d : Data) (ds : Items) (o : Option (List A))
    → Some (view x) ≡ f d → option_map (λ xs. map view taken ++ xs) (each f (item d ds)) ≡ o → refuses taken x → NoneTaken refuses view o
refused_here {T} {A} refuses view f taken x d ds o here all stays = rest (each f ds) (rw (sym here) at all)
  where
    rest : (o2 : Option (List A)) → option_map (λ xs. map view taken ++ xs) (option_and_then (λ xs. Some (view x ∷ xs)) o2) ≡ o → NoneTaken refuses view o
    rest None e = none_taken refuses view o e
    rest (Some ys) e = subst (NoneTaken refuses view) e (record { taken = taken; item = x; rest = ys; is = refl; refused = stays })
