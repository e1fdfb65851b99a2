-- A step of the loop over pairs.
use Rattle.std.proofs.Common.{◌≡◌, ◌+◌, ◌<◌, ◌++◌, ℕ, suc, Bool, true, false, List, [], ◌∷◌, Option, Some, is_some, length, drop, get_or, cond, refl, ap, ◌∙◌, true≢false, sym, add-one, drop-cons}
use Rattle.std.specs.Map.{lookup}
use Rattle.indexmap.specs.IndexMap.{insert_entry}
use Rattle.serde_json.specs.Data.{Data, Items, item}
use Rattle.serde_json.specs.View.{view as data_of, items_view}
use Rattle.serde_json.specs.declared.value.Value.{Value}
use Rattle.ir_kinds.specs.declared.predeclared.PredeclaredType.{PredeclaredType}
use Rattle.ir_kinds.specs.contracts.predeclared.PredeclaredTypePartialEq.TheImpl as same
use Rattle.document_items.specs.found.Special.{a_pair, pair_of, pairs_with}

-- a pair of a new predeclared type is appended
pub goes_last : (es : List (PredeclaredType × ℕ)) (k : PredeclaredType) (v : ℕ) → is_some (lookup (same.ghosts.eq k) es) ≡ false → insert_entry same.ghosts.eq es k v ≡ es ++ (k, v) ∷ []
goes_last [] k v h = refl
goes_last (e ∷ es) k v h = by (same.ghosts.eq k e.0) h (goes_last es k v)
  where
    by : (b : Bool) → is_some (cond b (Some e.1) (lookup (same.ghosts.eq k) es)) ≡ false
        → (is_some (lookup (same.ghosts.eq k) es) ≡ false → insert_entry same.ghosts.eq es k v ≡ es ++ (k, v) ∷ [])
        → cond b ((e.0, v) ∷ es) (e ∷ insert_entry same.ghosts.eq es k v) ≡ e ∷ es ++ (k, v) ∷ []
    by true h more = absurd (true≢false h)
    by false h more = ap (λ l. e ∷ l) (more h)

-- the result for a pair
pub pair_found : (d : Data) (e : PredeclaredType × ℕ) → Some e ≡ a_pair.find d → pair_of d ≡ Some e
unfolding pair_of
pair_found d e h = sym h

-- such a pair is appended
one_more : (es : List (PredeclaredType × ℕ)) (e : PredeclaredType × ℕ) (d : Data) (ds : Items) → pair_of d ≡ Some e → is_some (lookup (same.ghosts.eq e.0) es) ≡ false
    → pairs_with es (item d ds) ≡ pairs_with (es ++ e ∷ []) ds
one_more es e d ds found fresh = rw found (rw fresh refl)

pub goes_on : (es new : List (PredeclaredType × ℕ)) (e : PredeclaredType × ℕ) (vs : List Value) (i : ℕ) (v : Value) (all : Option (List (PredeclaredType × ℕ)))
    → i < length vs → v ≡ get_or vs i v → pair_of (data_of v) ≡ Some e → is_some (lookup (same.ghosts.eq e.0) es) ≡ false → new ≡ es ++ e ∷ []
    → pairs_with es (items_view (drop i vs)) ≡ all → pairs_with new (items_view (drop (i + 1) vs)) ≡ all
goes_on es new e vs i v all within is found fresh last so_far =
    let rest : drop i vs ≡ v ∷ drop (i + 1) vs = rw add-one (drop-cons vs i v within ∙ ap (λ y. y ∷ drop (suc i) vs) (sym is)) in
    ap (λ l. pairs_with l (items_view (drop (i + 1) vs))) last ∙ sym (one_more es e (data_of v) (items_view (drop (i + 1) vs)) found fresh) ∙ sym (ap (λ l. pairs_with es (items_view l)) rest) ∙ so_far
