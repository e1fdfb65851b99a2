-- Stored spans, padded to the number of statements.
use Rattle.std.proofs.Common.{◌≡◌, ℕ, zero, suc, ◌+◌, ◌-◌, ◌<◌, ◌≤◌, ◌==◌, Bool, true, false, true≢false, not, ◌&&◌, if◌then◌else◌, List, [], ◌∷◌, ◌++◌, take, drop, replicate, length, slice_index_or, Result, Ok, Err, OnOk, is_ok, refl, sym, ap, ◌∙◌, arith}
use Rattle.std.specs.List.{remove_range, splice}
use Rattle.std.proofs.lemmas.Bool.{and_parts, eqb-true}
use Rattle.std.proofs.lemmas.List.{length-append, length-take, length-drop, append_assoc, nil_from_length}
use Rattle.ir_types.specs.IrArena.{Span, undefined_span, span_from, is_defined_span}
use Rattle.ir_blocks.specs.found.Padded.{first_kept, padded, before_defined, up_to_defined}
use Rattle.ir_blocks.specs.found.Spans.{tail_of}
use Rattle.ir_blocks.proofs.RoomLemmas.{take_next, same_at}

-- reductions that native numbers don't make
next_sum : (n m : ℕ) → suc n + m ≡ suc (n + m)
next_sum n m = omega arith

no_sum : (m : ℕ) → zero + m ≡ m
no_sum m = omega arith

next_rest : (n e : ℕ) → suc n - suc e ≡ n - e
next_rest n e = omega arith

whole_rest : (n : ℕ) → n - zero ≡ n
whole_rest n = omega arith

no_rest : (e : ℕ) → zero - e ≡ zero
no_rest e = omega arith

pub length-padded : (n : ℕ) (kept : List Span) → length (padded n kept) ≡ n
length-padded zero kept = refl
length-padded (suc n) kept = ap suc (length-padded n (tail_of kept))

pub padded_none : (n : ℕ) → padded n [] ≡ replicate n undefined_span
padded_none zero = refl
padded_none (suc n) = ap (λ z. undefined_span ∷ z) (padded_none n)

pub padded_parts : (n : ℕ) (kept : List Span) → padded n kept ≡ take n kept ++ replicate (n - length kept) undefined_span
padded_parts zero [] = sym (ap (λ k. replicate k undefined_span) (no_rest zero))
padded_parts zero (x ∷ kept) = sym (ap (λ k. replicate k undefined_span) (no_rest (suc (length kept))))
padded_parts (suc n) [] = padded_none (suc n) ∙ sym (ap (λ k. replicate k undefined_span) (whole_rest (suc n)))
padded_parts (suc n) (x ∷ kept) = ap (λ z. x ∷ z) (padded_parts n kept ∙ sym (ap (λ k. take n kept ++ replicate k undefined_span) (next_rest n (length kept))))

-- n padded spans, followed by others
pub padded_behind : (n m : ℕ) (kept more : List Span) → padded (n + m) (padded n kept ++ more) ≡ padded n kept ++ padded m more
padded_behind zero m kept more = ap (λ k. padded k more) (no_sum m)
padded_behind (suc n) m kept more =
    ap (λ k. padded k (first_kept kept ∷ (padded n (tail_of kept) ++ more))) (next_sum n m) ∙ ap (λ z. first_kept kept ∷ z) (padded_behind n m (tail_of kept) more)

pub padded_cut : (n m : ℕ) (kept : List Span) → padded (n + m) (take n kept) ≡ padded n kept ++ padded m []
padded_cut zero m [] = ap (λ k. padded k []) (no_sum m)
padded_cut zero m (x ∷ kept) = ap (λ k. padded k []) (no_sum m)
padded_cut (suc n) m [] = ap (λ k. padded k []) (next_sum n m) ∙ ap (λ z. undefined_span ∷ z) (nothing n ∙ padded_cut n m [])
  where
    nothing : (n : ℕ) → padded (n + m) [] ≡ padded (n + m) (take n [])
    nothing zero = refl
    nothing (suc n) = refl
padded_cut (suc n) m (x ∷ kept) = ap (λ k. padded k (x ∷ take n kept)) (next_sum n m) ∙ ap (λ z. x ∷ z) (padded_cut n m kept)

pub padded_again : (n : ℕ) (kept : List Span) → padded n (padded n kept) ≡ padded n kept
padded_again zero kept = refl
padded_again (suc n) kept = ap (λ z. first_kept kept ∷ z) (padded_again n (tail_of kept))

pub padded_whole : (n : ℕ) (xs : List Span) → length xs ≡ n → padded n xs ≡ xs
padded_whole zero [] e = refl
padded_whole zero (x ∷ xs) e = absurd (omega (arith, e))
padded_whole (suc n) [] e = absurd (omega (arith, e))
padded_whole (suc n) (x ∷ xs) e = ap (λ z. x ∷ z) (padded_whole n xs (omega (arith, e)))

-- without a range of them
after_cut : (n e : ℕ) (kept : List Span) → padded (n - e) (drop e kept) ≡ drop e (padded n kept)
after_cut zero zero kept = ap (λ k. padded k kept) (no_rest zero)
after_cut zero (suc e) kept = ap (λ k. padded k (drop (suc e) kept)) (no_rest (suc e))
after_cut (suc n) zero kept = ap (λ k. padded k kept) (whole_rest (suc n))
after_cut (suc n) (suc e) [] = ap (λ k. padded k []) (next_rest n e) ∙ (nothing n e ∙ after_cut n e [])
  where
    nothing : (n e : ℕ) → padded (n - e) [] ≡ padded (n - e) (drop e [])
    nothing n zero = refl
    nothing n (suc e) = refl
after_cut (suc n) (suc e) (x ∷ kept) = ap (λ k. padded k (drop e kept)) (next_rest n e) ∙ after_cut n e kept

-- the number of those that remain
left_over : (n s e : ℕ) → suc s + (suc n - suc e) ≡ suc (s + (n - e))
left_over n s e = omega arith

pub padded_without : (n s e : ℕ) (kept : List Span) → s ≤ e → e ≤ n → padded (s + (n - e)) (remove_range kept s e) ≡ remove_range (padded n kept) s e
padded_without n zero e kept p q = ap (λ k. padded k (drop e kept)) (no_sum (n - e)) ∙ after_cut n e kept
padded_without zero (suc s) e kept p q = absurd (omega (arith, p, q))
padded_without (suc n) (suc s) zero kept p q = absurd (omega (arith, p))
padded_without (suc n) (suc s) (suc e) [] p q =
    ap (λ k. padded k []) (left_over n s e) ∙ ap (λ z. undefined_span ∷ z) (nothing s e ∙ padded_without n s e [] (omega (arith, p)) (omega (arith, q)))
  where
    nothing : (s e : ℕ) → padded (s + (n - e)) [] ≡ padded (s + (n - e)) (remove_range [] s e)
    nothing zero zero = refl
    nothing zero (suc e) = refl
    nothing (suc s) zero = refl
    nothing (suc s) (suc e) = refl
padded_without (suc n) (suc s) (suc e) (x ∷ kept) p q =
    ap (λ k. padded k (x ∷ remove_range kept s e)) (left_over n s e) ∙ ap (λ z. x ∷ z) (padded_without n s e kept (omega (arith, p)) (omega (arith, q)))

-- with a range of them replaced
pub length-spliced : {X : Type 0} (xs ys : List X) (s e n : ℕ) → length xs ≡ n → s ≤ e → e ≤ n → length (splice xs s e ys) ≡ s + length ys + (n - e)
length-spliced xs ys s e n l p q =
    let parts = length-append (take s xs) (ys ++ drop e xs) in
    let behind = length-append ys (drop e xs) in
    omega (arith, parts, behind, length-take s xs, length-drop e xs, l, p, q)

pub padded_spliced : (n m s e : ℕ) (kept other : List Span) → s ≤ e → e ≤ n → padded (s + m + (n - e)) (splice (padded n kept) s e (padded m other)) ≡ splice (padded n kept) s e (padded m other)
padded_spliced n m s e kept other p q =
    padded_whole _ _ (length-spliced (padded n kept) (padded m other) s e n (length-padded n kept) p q ∙ ap (λ k. s + k + (n - e)) (length-padded m other))

-- all undefined
none_after : (n m : ℕ) → padded (n + m) [] ≡ padded n [] ++ padded m []
none_after zero m = ap (λ k. padded k []) (no_sum m)
none_after (suc n) m = ap (λ k. padded k []) (next_sum n m) ∙ ap (λ z. undefined_span ∷ z) (none_after n m)

none_taken : (s n : ℕ) → s ≤ n → take s (padded n []) ≡ padded s []
none_taken zero zero p = refl
none_taken zero (suc n) p = refl
none_taken (suc s) zero p = absurd (omega (arith, p))
none_taken (suc s) (suc n) p = ap (λ z. undefined_span ∷ z) (none_taken s n (omega (arith, p)))

none_dropped : (n e : ℕ) → drop e (padded n []) ≡ padded (n - e) []
none_dropped n e = sym (after_cut n e []) ∙ nothing e
  where
    nothing : (e : ℕ) → padded (n - e) (drop e []) ≡ padded (n - e) []
    nothing zero = refl
    nothing (suc e) = refl

pub none_spliced : (n m s e : ℕ) → s ≤ e → e ≤ n → padded (s + m + (n - e)) [] ≡ splice (padded n []) s e (padded m [])
none_spliced n m s e p q =
    let parts : padded (s + m + (n - e)) [] ≡ (padded s [] ++ padded m []) ++ padded (n - e) [] = none_after (s + m) (n - e) ∙ ap (λ z. z ++ padded (n - e) []) (none_after s m) in
    let front : take s (padded n []) ≡ padded s [] = none_taken s n (omega (arith, p, q)) in
    parts ∙ (append_assoc (padded s []) (padded m []) (padded (n - e) []) ∙ sym (λ i. front i ++ (padded m [] ++ none_dropped n e i)))

-- ---- what the calls require

-- truncated or padded to a length
pub resized : {T E : Type 0} (r : Result T E) (n len : ℕ) (old new : List Span) → len ≡ length old → new ≡ (if is_ok r then take n old ++ replicate (n - len) undefined_span else old) → OnOk r (new ≡ padded n old)
resized (Ok x) n len old new l e = e ∙ (ap (λ k. take n old ++ replicate (n - k) undefined_span) l ∙ sym (padded_parts n old))
resized (Err x) n len old new l e = tt

not_false : (b : Bool) → not b ≡ false → b ≡ true
not_false true e = refl
not_false false e = absurd (true≢false e)

pub undefined_is : (x : Span) → is_defined_span x ≡ false → x ≡ undefined_span
undefined_is x e =
    let both = and_parts (x.start == 0) (x.end == 0) (not_false ((x.start == 0) && (x.end == 0)) e) in
    let first = eqb-true x.start 0 both.0 in
    let second = eqb-true x.end 0 both.1 in
    λ i. span_from (first i) (second i)

pub pushed_undefined : (n : ℕ) (kept : List Span) (x : Span) → is_defined_span x ≡ false → padded (n + 1) (take n kept) ≡ padded n kept ++ x ∷ []
pushed_undefined n kept x e = padded_cut n 1 kept ∙ ap (λ z. padded n kept ++ z ∷ []) (sym (undefined_is x e))

pub pushed : (n : ℕ) (kept new : List Span) (x : Span) → new ≡ padded n kept ++ x ∷ [] → padded (n + 1) new ≡ padded n kept ++ x ∷ []
pushed n kept new x e = ap (padded (n + 1)) e ∙ padded_behind n 1 kept (x ∷ [])

-- a call that failed after the spans were padded
pub refused : (n : ℕ) (kept new : List Span) → new ≡ padded n kept → padded n new ≡ padded n kept
refused n kept new e = ap (padded n) e ∙ padded_again n kept

nothing_is : (xs : List Span) → (length xs == 0) ≡ true → xs ≡ []
nothing_is xs e = nil_from_length xs (eqb-true (length xs) 0 e)

pub appended_nothing : (n m : ℕ) (kept other : List Span) → (length other == 0) ≡ true → padded (n + m) (take n kept) ≡ padded n kept ++ padded m other
appended_nothing n m kept other e = padded_cut n m kept ∙ ap (λ z. padded n kept ++ padded m z) (sym (nothing_is other e))

pub appended : (n m : ℕ) (kept other new : List Span) → new ≡ padded n kept ++ other → padded (n + m) new ≡ padded n kept ++ padded m other
appended n m kept other new e = ap (padded (n + m)) e ∙ padded_behind n m kept other

pub spliced_nothing : (n m s e : ℕ) (kept other : List Span) → s ≤ e → e ≤ n → (length kept == 0) ≡ true → (length other == 0) ≡ true → padded (s + m + (n - e)) kept ≡ splice (padded n kept) s e (padded m other)
spliced_nothing n m s e kept other p q k o =
    let none = nothing_is kept k in
    let no_other = nothing_is other o in
    ap (padded (s + m + (n - e))) none ∙ (none_spliced n m s e p q ∙ sym (λ i. splice (padded n (none i)) s e (padded m (no_other i))))

pub spliced : (n m s e : ℕ) (kept other new : List Span) → s ≤ e → e ≤ n → new ≡ splice (padded n kept) s e (padded m other) → padded (s + m + (n - e)) new ≡ splice (padded n kept) s e (padded m other)
spliced n m s e kept other new p q is = ap (padded (s + m + (n - e))) is ∙ padded_spliced n m s e kept other p q

-- a block with a range of its statements removed
pub culled : {X : Type 0} (old new : List X) (s e : ℕ) (kept rest : List Span) → s ≤ e → e ≤ length old → new ≡ remove_range old s e → rest ≡ remove_range kept s e → padded (length new) rest ≡ remove_range (padded (length old) kept) s e
culled old new s e kept rest p q is left =
    let parts = length-append (take s old) (drop e old) in
    let count : length new ≡ s + (length old - e) = ap length is ∙ omega (arith, parts, length-take s old, length-drop e old, p, q) in
    (λ i. padded (count i) (left i)) ∙ padded_without (length old) s e kept p q

-- ---- up to the last defined span

behind_undefined : (xs : List Span) (x : Span) → is_defined_span x ≡ false → up_to_defined (xs ++ x ∷ []) ≡ up_to_defined xs
behind_undefined [] x e = ap (λ d. if d then x ∷ [] else []) e
behind_undefined (y ∷ xs) x e = ap (before_defined y) (behind_undefined xs x e)

ends_defined : (xs : List Span) (x : Span) → is_defined_span x ≡ true → up_to_defined (xs ++ x ∷ []) ≡ xs ++ x ∷ []
ends_defined [] x e = ap (λ d. if d then x ∷ [] else []) e
ends_defined (y ∷ []) x e = ap (before_defined y) (ends_defined [] x e)
ends_defined (y ∷ z ∷ xs) x e = ap (before_defined y) (ends_defined (z ∷ xs) x e)

last_taken : (xs : List Span) (n : ℕ) (d : Span) → 0 < n → n ≤ length xs → take n xs ≡ take (n - 1) xs ++ slice_index_or xs (n - 1) d ∷ []
last_taken xs n d p q =
    let before : n ≡ (n - 1) + 1 = omega (arith, p) in
    let within : n - 1 < length xs = omega (arith, p, q) in
    ap (λ k. take k xs) before ∙ take_next xs (n - 1) (slice_index_or xs (n - 1) d) within (same_at xs (n - 1) d (slice_index_or xs (n - 1) d) within)

-- the last of the first n is inspected, and all after these are undefined
pub known_without : (xs : List Span) (n : ℕ) (d : Span) → 0 < n → n ≤ length xs → is_defined_span (slice_index_or xs (n - 1) d) ≡ false → up_to_defined (take n xs) ≡ up_to_defined xs
    → (n - 1 ≤ length xs) × (up_to_defined (take (n - 1) xs) ≡ up_to_defined xs)
known_without xs n d p q e so_far = (omega (arith, p, q), sym (ap up_to_defined (last_taken xs n d p q) ∙ behind_undefined (take (n - 1) xs) (slice_index_or xs (n - 1) d) e) ∙ so_far)

pub known_to : (xs : List Span) (n : ℕ) (d : Span) → 0 < n → n ≤ length xs → is_defined_span (slice_index_or xs (n - 1) d) ≡ true → up_to_defined (take n xs) ≡ up_to_defined xs → take n xs ≡ up_to_defined xs
known_to xs n d p q e so_far =
    let whole = last_taken xs n d p q in
    whole ∙ (sym (ends_defined (take (n - 1) xs) (slice_index_or xs (n - 1) d) e) ∙ (sym (ap up_to_defined whole) ∙ so_far))
