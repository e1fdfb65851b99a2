-- Items that are changed one after another, by an index.
use Rattle.std.proofs.Common.{◌≡◌, ◌<◌, ◌≤◌, ◌+◌, ℕ, List, [], ◌∷◌, length, map, take, get_or, Some, option_map, slice_get, refl, sym, ap, subst, ◌∙◌, arith}
use Rattle.std.specs.Prelude.{unwrap_or}
use Rattle.std.specs.List.{All}
use Rattle.std.proofs.Math.ListN.{set}
use Rattle.std.proofs.lemmas.List.{take_all}
use Rattle.std.proofs.lemmas.List.Elements.{All-push}
use Rattle.std.proofs.lemmas.Option.{slice_get-get_or, same_Some}
use Rattle.ir_blocks.specs.IrArena.{undefined_span, value_of_entry, span_of_entry, value_at, span_at, with_value, Span, entry_of}
use Rattle.ir_blocks.proofs.RoomLemmas.{Unvisited, take_set, same_looks, unvisited_more, done_more}

module _ {A : Type 0} (P : A → Type 0) where
  -- one more of the first i satisfies it
  pub more_have : (vs : List A) (i : ℕ) (x : A) → i < length vs → All P (take i vs) → P x → All P (take (i + 1) (set vs i x))
  more_have vs i x lt all one = subst (All P) (sym (take_set vs i x lt)) (All-push P (take i vs) x all one)

  pub all_have : (vs : List A) (n : ℕ) → length vs ≤ n → All P (take n vs) → All P vs
  all_have vs n past all = subst (All P) (take_all n vs past) all

  -- an item that is not visited yet is unchanged
  pub here_has : (vs ws : List A) (i : ℕ) (x : A) → x ≡ get_or vs i x → Unvisited vs ws i → i < length ws → All P ws → P x
  here_has vs ws i x e u lt all = subst P (sym (e ∙ u.1 i x (omega arith))) (all i x lt)

-- the value at a handle with its span, as an entry
pub entry_at : {A : Type 0} (es : List (A × Span)) (h : ℕ) (v : A) → h < length es → Some v ≡ value_at es h → (v, span_at es h) ≡ get_or es h (v, span_at es h)
entry_at {A} es h v lt at =
    let d : A × Span = (v, span_at es h) in
    let entry : A × Span = get_or es h d in
    let found : slice_get es h ≡ Some entry = slice_get-get_or es h d lt in
    let v_is : v ≡ entry.0 = same_Some v entry.0 (at ∙ ap (option_map value_of_entry) found) in
    let span_is : span_at es h ≡ entry.1 = ap (λ o. unwrap_or (option_map span_of_entry o) undefined_span) found in
    (λ i. (v_is i, span_is i))

-- ---- the value at a handle is changed

-- those after it are not visited yet
pub unvisited_entry : {A : Type 0} (es old : List (A × Span)) (h place : ℕ) (w : A) → h ≡ place → Unvisited es old place → Unvisited (with_value es h w) old (place + 1)
unvisited_entry es old h place w is u =
    subst (λ k. Unvisited (with_value es h w) old (k + 1)) is (unvisited_more es old h (w, span_at es h) (subst (Unvisited es old) (sym is) u))

module _ {A View : Type 0} (view : A → View) where
  -- it has the same view
  pub entry_stays : (es : List (A × Span)) (h : ℕ) (v w : A) → h < length es → Some v ≡ value_at es h → view w ≡ view v → map (entry_of view) (with_value es h w) ≡ map (entry_of view) es
  entry_stays es h v w lt at same =
      same_looks (entry_of view) es h (v, span_at es h) (w, span_at es h) lt (entry_at es h v lt at) (ap (λ x. (x, span_at es h)) same)

  -- one more item is done, by f for one item
  pub entry_done : (f : View → View) (es old : List (A × Span)) (h place : ℕ) (v w : A) → h ≡ place → h < length es → Some v ≡ value_at es h → Unvisited es old place → view w ≡ f (view v)
      → map (entry_of view) (take place es) ≡ map (λ e. entry_of f (entry_of view e)) (take place old)
      → map (entry_of view) (take (place + 1) (with_value es h w)) ≡ map (λ e. entry_of f (entry_of view e)) (take (place + 1) old)
  entry_done f es old h place v w is lt at u done before =
      let x : A × Span = (v, span_at es h) in
      let y : A × Span = (w, span_at es h) in
      let u_here : Unvisited es old h = subst (Unvisited es old) (sym is) u in
      let before_here : map (entry_of view) (take h es) ≡ map (λ e. entry_of f (entry_of view e)) (take h old) =
      subst (λ k. map (entry_of view) (take k es) ≡ map (λ e. entry_of f (entry_of view e)) (take k old)) (sym is) before in
      subst (λ k. map (entry_of view) (take (k + 1) (with_value es h w)) ≡ map (λ e. entry_of f (entry_of view e)) (take (k + 1) old)) is
      (done_more (entry_of view) (λ e. entry_of f (entry_of view e)) es old h x y lt u_here (entry_at es h v lt at) (ap (λ z. (z, span_at es h)) done) before_here)

module _ {A : Type 0} (P : A → Type 0) where
  -- one more of the first satisfies it
  pub entries_have : (es : List (A × Span)) (h place : ℕ) (w : A) → h ≡ place → h < length es → All (λ (e : A × Span). P e.0) (take place es) → P w → All (λ (e : A × Span). P e.0) (take (place + 1) (with_value es h w))
  entries_have es h place w is lt all one =
      subst (λ k. All (λ (e : A × Span). P e.0) (take (k + 1) (with_value es h w))) is
      (more_have (λ (e : A × Span). P e.0) es h (w, span_at es h) lt (subst (λ k. All (λ (e : A × Span). P e.0) (take k es)) (sym is) all) one)

  -- an item that is not visited yet is unchanged
  pub entry_has : (es old : List (A × Span)) (h place : ℕ) (v : A) → h ≡ place → h < length es → Some v ≡ value_at es h → Unvisited es old place → All (λ (e : A × Span). P e.0) old → P v
  entry_has es old h place v is lt at u all =
      let u_here : Unvisited es old h = subst (Unvisited es old) (sym is) u in
      here_has (λ (e : A × Span). P e.0) es old h (v, span_at es h) (entry_at es h v lt at) u_here (omega (arith, u_here.0)) all

-- one after another, or both together
pub both_maps : {A B C : Type 0} (f : B → C) (g : A → B) (xs : List A) → map (λ x. f (g x)) xs ≡ map f (map g xs)
both_maps f g [] = refl
both_maps f g (x ∷ xs) = ap (λ rest. f (g x) ∷ rest) (both_maps f g xs)
