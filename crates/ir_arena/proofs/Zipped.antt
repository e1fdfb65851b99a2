-- Values and their spans, zipped into a list of pairs.
use Rattle.std.proofs.Common.{◌≡◌, ◌+◌, ◌-◌, ◌<◌, ◌≤◌, ℕ, zero, suc, Bool, true, false, ◌&&◌, List, [], ◌∷◌, ◌++◌, Some, None, map, take, drop, length, get_or, option_map, slice_get, refl, sym, ap, ◌∙◌, arith, rules}
use Rattle.std.proofs.Math.Nat.{suc_inj}
use Rattle.std.proofs.lemmas.Slice.Zip.{length-zip, firsts-zip, seconds-zip, get_or-zip}
use Rattle.std.proofs.lemmas.Option.{slice_get_read, slice_get-map, slice_get_past, same_Some}
use Rattle.std.proofs.lemmas.List.{take-map, drop-map}
use Rattle.std.specs.Prelude.{slice_set, slice_range, unwrap_or, position, nat_lt, cond}
use Rattle.std.specs.List.{zip, length_refill, enumerate_from, swap, position_or_len}
use Rattle.std.specs.Cmp.Lexicographic.{pointwise}
use Rattle.ir_arena.specs.declared.span.Span.{Span}
use Rattle.ir_arena.specs.found.Spans.{undefined_span}
use Rattle.ir_arena.specs.found.Equality.{same_span, same_entries}
use Rattle.ir_arena.specs.found.Arenas.{value_of_entry, span_of_entry, value_at, span_at, with_value, with_values}
use Rattle.ir_arena.specs.judged.Handles.{handles_from}

same_first : (a b c d : Bool) → (a && c) && (b && d) ≡ (a && b) && (c && d)
same_first true true c d = refl
same_first true false true d = refl
same_first true false false d = refl
same_first false b c d = refl

module _ {T : Type 0} where
  -- the two lists as the projections of the pairs
  pub record Opened (values : List T) (spans : List Span) (entries : List (T × Span)) : Type 0 where
    pub pairs : zip values spans ≡ entries
    pub values_are : values ≡ map value_of_entry entries
    pub spans_are : spans ≡ map span_of_entry entries
    pub values_length : length values ≡ length entries
    pub spans_length : length spans ≡ length entries

  pub length_map : {B : Type 0} (f : T × Span → B) (entries : List (T × Span)) → length (map f entries) ≡ length entries
  length_map f [] = refl
  length_map f (e ∷ es) = ap suc (length_map f es)

  -- from the view's equation and the invariant
  pub opened : (values : List T) (spans : List Span) (entries : List (T × Span)) → zip values spans ≡ entries → length spans ≡ length values → Opened values spans entries
  opened values spans entries p even =
      let first = sym (firsts-zip values spans even) ∙ ap (map value_of_entry) p in
      let second = sym (seconds-zip values spans even) ∙ ap (map span_of_entry) p in
      record {
        pairs = p;
        values_are = first;
        spans_are = second;
        values_length = ap length first ∙ length_map value_of_entry entries;
        spans_length = ap length second ∙ length_map span_of_entry entries;
      }

  -- an element of one of the two lists
  pub value_read : (values : List T) (entries : List (T × Span)) (i : ℕ) (x : T) → values ≡ map value_of_entry entries → i < length entries → x ≡ get_or values i x → Some x ≡ value_at entries i
  value_read values entries i x are within is =
      sym (slice_get_read values (length entries) i x (sym (ap length are ∙ length_map value_of_entry entries)) within is) ∙ (ap (λ vs. slice_get vs i) are ∙ slice_get-map value_of_entry entries i)

  pub span_read : (spans : List Span) (entries : List (T × Span)) (i : ℕ) (x : Span) → spans ≡ map span_of_entry entries → i < length entries → x ≡ get_or spans i x → x ≡ span_at entries i
  span_read spans entries i x are within is =
      let found = sym (slice_get_read spans (length entries) i x (sym (ap length are ∙ length_map span_of_entry entries)) within is) ∙ (ap (λ vs. slice_get vs i) are ∙ slice_get-map span_of_entry entries i) in
      ap (λ o. unwrap_or o undefined_span) found

  pub span_past : (entries : List (T × Span)) (i : ℕ) → length entries ≤ i → undefined_span ≡ span_at entries i
  span_past entries i past = ap (λ o. unwrap_or (option_map span_of_entry o) undefined_span) (sym (slice_get_past entries i past))

  -- appending to both lists appends a pair
  pub zip_push : (values : List T) (spans : List Span) (v : T) (s : Span) → length spans ≡ length values → zip (values ++ v ∷ []) (spans ++ s ∷ []) ≡ zip values spans ++ (v, s) ∷ []
  zip_push [] [] v s e = refl
  zip_push [] (y ∷ spans) v s e = absurd (omega (arith, e))
  zip_push (x ∷ values) [] v s e = absurd (omega (arith, e))
  zip_push (x ∷ values) (y ∷ spans) v s e = ap (λ l. (x, y) ∷ l) (zip_push values spans v s (suc_inj e))

  pub pushed : (values vs : List T) (spans ss : List Span) (entries : List (T × Span)) (v : T) (s : Span) → zip values spans ≡ entries → length spans ≡ length values → vs ≡ values ++ v ∷ [] → ss ≡ spans ++ s ∷ [] → zip vs ss ≡ entries ++ (v, s) ∷ []
  pushed values vs spans ss entries v s is even first second =
      ap (λ l. zip l ss) first ∙ (ap (zip (values ++ v ∷ [])) second ∙ (zip_push values spans v s even ∙ ap (λ l. l ++ (v, s) ∷ []) is))

  -- a value replaced
  pub zip_set : (values : List T) (spans : List Span) (i : ℕ) (v : T) → zip (slice_set values i v) spans ≡ with_value (zip values spans) i v
  zip_set [] spans i v = refl
  zip_set (x ∷ values) [] zero v = refl
  zip_set (x ∷ values) [] (suc i) v = refl
  zip_set (x ∷ values) (y ∷ spans) zero v = refl
  zip_set (x ∷ values) (y ∷ spans) (suc i) v = ap (λ l. (x, y) ∷ l) (zip_set values spans i v)

  zip_set_both : (values : List T) (spans : List Span) (i : ℕ) (v : T) (s : Span) → zip (slice_set values i v) (slice_set spans i s) ≡ slice_set (zip values spans) i (v, s)
  zip_set_both [] spans i v s = refl
  zip_set_both (x ∷ values) [] zero v s = refl
  zip_set_both (x ∷ values) [] (suc i) v s = refl
  zip_set_both (x ∷ values) (y ∷ spans) zero v s = refl
  zip_set_both (x ∷ values) (y ∷ spans) (suc i) v s = ap (λ l. (x, y) ∷ l) (zip_set_both values spans i v s)

  pub zip_take : (n : ℕ) (values : List T) (spans : List Span) → zip (take n values) (take n spans) ≡ take n (zip values spans)
  zip_take zero values spans = refl
  zip_take (suc n) [] spans = refl
  zip_take (suc n) (x ∷ values) [] = refl
  zip_take (suc n) (x ∷ values) (y ∷ spans) = ap (λ l. (x, y) ∷ l) (zip_take n values spans)

  -- two entries swapped
  pub zip_swap : (values : List T) (spans : List Span) (i j : ℕ) → length spans ≡ length values → i < length values → j < length values → zip (swap values i j) (swap spans i j) ≡ swap (zip values spans) i j
  zip_swap [] spans i j e a b = absurd (omega arith)
  zip_swap (x ∷ values) [] i j e a b = absurd (omega (arith, e))
  zip_swap (x ∷ values) (y ∷ spans) i j e a b =
      let vs = x ∷ values in
      let ss = y ∷ spans in
      zip_set_both (slice_set vs i (get_or vs j x)) (slice_set ss i (get_or ss j y)) j (get_or vs i x) (get_or ss i y)
      ∙ (λ k. slice_set ((zip_set_both vs ss i (get_or vs j x) (get_or ss j y) ∙ ap (slice_set (zip vs ss) i) (sym (get_or-zip vs ss j (x, y) b (omega (arith, e, b))))) k) j (sym (get_or-zip vs ss i (x, y) a (omega (arith, e, a))) k))

  -- a search of the values is one of the pairs
  position_or_len_map : (p : T → Bool) (entries : List (T × Span)) → position_or_len p (map value_of_entry entries) ≡ position_or_len (λ e. p e.0) entries
  position_or_len_map p [] = refl
  position_or_len_map p (e ∷ es) = search (rules, position_or_len_map p es)

  pub position_map : (p : T → Bool) (values : List T) (entries : List (T × Span)) → values ≡ map value_of_entry entries → position p values ≡ position (λ e. p e.0) entries
  position_map p values entries are =
      ap (position p) are ∙ (λ k. cond (nat_lt (position_or_len_map p entries k) (length_map value_of_entry entries k)) (Some (position_or_len_map p entries k)) None)

  -- equal lists have equal pairs
  pub zip_same : (eq : T → T → Bool) (vs ws : List T) (ss ts : List Span) → length ss ≡ length vs → length ts ≡ length ws → (pointwise eq vs ws && pointwise same_span ss ts) ≡ same_entries eq (zip vs ss) (zip ws ts)
  zip_same eq [] [] [] [] e f = refl
  zip_same eq [] [] [] (t ∷ ts) e f = absurd (omega (arith, f))
  zip_same eq [] [] (s ∷ ss) ts e f = absurd (omega (arith, e))
  zip_same eq [] (w ∷ ws) ss [] e f = absurd (omega (arith, f))
  zip_same eq [] (w ∷ ws) ss (t ∷ ts) e f = refl
  zip_same eq (v ∷ vs) ws [] ts e f = absurd (omega (arith, e))
  zip_same eq (v ∷ vs) [] (s ∷ ss) ts e f = refl
  zip_same eq (v ∷ vs) (w ∷ ws) (s ∷ ss) [] e f = absurd (omega (arith, f))
  zip_same eq (v ∷ vs) (w ∷ ws) (s ∷ ss) (t ∷ ts) e f =
      same_first (eq v w) (same_span s t) (pointwise eq vs ws) (pointwise same_span ss ts) ∙ ap (λ b. (eq v w && same_span s t) && b) (zip_same eq vs ws ss ts (suc_inj e) (suc_inj f))

  pub both_same : (eq : T → T → Bool) (vs ws : List T) (ss ts : List Span) (xs ys : List (T × Span)) → zip vs ss ≡ xs → zip ws ts ≡ ys → length ss ≡ length vs → length ts ≡ length ws → (pointwise eq vs ws && pointwise same_span ss ts) ≡ same_entries eq xs ys
  both_same eq vs ws ss ts xs ys a b e f = zip_same eq vs ws ss ts e f ∙ (λ k. same_entries eq (a k) (b k))

  pub swapped : (values vs : List T) (spans ss : List Span) (entries : List (T × Span)) (i j : ℕ) → zip values spans ≡ entries → length spans ≡ length values → i < length entries → j < length entries → vs ≡ swap values i j → ss ≡ swap spans i j → zip vs ss ≡ swap entries i j
  swapped values vs spans ss entries i j is even a b first second =
      let n = (opened values spans entries is even).values_length in
      (λ k. zip (first k) (second k)) ∙ (zip_swap values spans i j even (omega (arith, n, a)) (omega (arith, n, b)) ∙ ap (λ es. swap es i j) is)

  pub truncated : (values vs : List T) (spans ss : List Span) (entries : List (T × Span)) (n : ℕ) → zip values spans ≡ entries → vs ≡ take n values → ss ≡ take n spans → zip vs ss ≡ take n entries
  truncated values vs spans ss entries n is first second = (λ k. zip (first k) (second k)) ∙ (zip_take n values spans ∙ ap (take n) is)

  -- the values of pairs, with their handles
  pub handles_numbered : (place : ℕ) (entries : List (T × Span)) → enumerate_from place (map value_of_entry entries) ≡ handles_from place entries
  handles_numbered place [] = refl
  handles_numbered place (e ∷ es) = ap (λ l. (place, e.0) ∷ l) (handles_numbered (place + 1) es)

  -- writes to the values keep the length and the spans
  pub length_with_values : (entries : List (T × Span)) (values : List T) → length (with_values entries values) ≡ length entries
  length_with_values entries values =
      let n = length_refill (length entries) (map value_of_entry entries) values (sym (length_map value_of_entry entries)) in
      length-zip _ _ ∙ omega (arith, n, length_map span_of_entry entries)

  pub spans_with_values : (entries : List (T × Span)) (values : List T) → map span_of_entry (with_values entries values) ≡ map span_of_entry entries
  spans_with_values entries values =
      let n = length_refill (length entries) (map value_of_entry entries) values (sym (length_map value_of_entry entries)) in
      seconds-zip _ _ (length_map span_of_entry entries ∙ n)

  -- the entry at a handle, for any default
  pub value_got : (entries : List (T × Span)) (i : ℕ) (x : T) → Some x ≡ value_at entries i → (d : T × Span) → x ≡ (get_or entries i d).0
  value_got [] i x e d = cc
  value_got (y ∷ ys) zero x e d = same_Some _ _ e
  value_got (y ∷ ys) (suc i) x e d = value_got ys i x e d

  pub span_got : (entries : List (T × Span)) (i : ℕ) → i < length entries → (d : T × Span) → span_at entries i ≡ (get_or entries i d).1
  span_got [] i within d = absurd (omega arith)
  span_got (y ∷ ys) zero within d = refl
  span_got (y ∷ ys) (suc i) within d = span_got ys i (omega arith) d

  -- a slice of the values, or of the spans, is a slice of the entries
  pub part_of : {B : Type 0} (f : T × Span → B) (entries es : List (T × Span)) (parts : List B) (start end a b : ℕ) → es ≡ entries → parts ≡ map f es → start ≡ a → end ≡ b → take (end - start) (drop start parts) ≡ map f (slice_range entries a b)
  part_of f entries es parts start end a b same are from to =
      (λ k. take (to k - from k) (drop (from k) ((are ∙ ap (map f) same) k))) ∙ (ap (take (b - a)) (drop-map f a entries) ∙ take-map f (b - a) (drop a entries))
