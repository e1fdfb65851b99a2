-- Moving the retained elements to the front of a list.
use Rattle.std.proofs.Common.{◌≡◌, ℕ, ◌+◌, ◌<◌, ◌≤◌, Bool, true, false, List, [], ◌∷◌, ◌++◌, length, take, drop, get_or, refl, sym, ap, subst, inl, inr, ◌∙◌, append_assoc, append-nil, arith, add-one, length-set, drop-cons}
use Rattle.std.specs.Prelude.{slice_set}
use Rattle.std.specs.List.{swap}
use Rattle.std.proofs.lemmas.Bool.{cases_lt}
use Rattle.std.proofs.lemmas.List.{drop_all, take-set-le, take_more_set, drop-set-lt, get_or-set_same}
use Rattle.std.proofs.lemmas.List.Edits.{swap_is}
use Rattle.ir_arena.specs.declared.span.Span.{Span}
use Rattle.ir_arena.specs.found.Retains.{RetainsFrom}

module _ {X : Type 0} (xs : List X) (y : X) where
  swapped : (kept place : ℕ) → kept ≤ place → place < length xs → swap (slice_set xs place y) kept place ≡ slice_set (slice_set (slice_set xs place y) kept (get_or (slice_set xs place y) place y)) place (get_or (slice_set xs place y) kept y)
  swapped kept place behind within =
      sym (swap_is (slice_set xs place y) kept place y (omega (arith, length-set xs place y)) (omega (arith, length-set xs place y)))

  take-swapped_same : (place : ℕ) → place < length xs → take (place + 1) (swap (slice_set xs place y) place place) ≡ take place xs ++ y ∷ []
  take-swapped_same place within =
      let here = slice_set xs place y in
      let v = get_or here place y in
      ap (take (place + 1)) (swapped place place (omega arith) within)
      ∙ take_more_set (slice_set here place v) place v (omega (arith, length-set here place v, length-set xs place y))
      ∙ ap (λ l. l ++ v ∷ []) (take-set-le place here place v (omega arith) ∙ take-set-le place xs place y (omega arith))
      ∙ ap (λ w. take place xs ++ w ∷ []) (get_or-set_same xs place y y within)

  -- the retained element y is appended to the retained ones
  pub take-swapped : (kept place : ℕ) → kept ≤ place → place < length xs → take (kept + 1) (swap (slice_set xs place y) kept place) ≡ take kept xs ++ y ∷ []
  take-swapped kept place behind within =
      let here = slice_set xs place y in
      let v = get_or here place y in
      elim (cases_lt kept place) [
        | inl before ↦
            ap (take (kept + 1)) (swapped kept place behind within)
            ∙ take-set-le (kept + 1) (slice_set here kept v) place (get_or here kept y) (omega arith)
            ∙ take_more_set here kept v (omega (arith, length-set xs place y))
            ∙ ap (λ l. l ++ v ∷ []) (take-set-le kept xs place y behind)
            ∙ ap (λ w. take kept xs ++ w ∷ []) (get_or-set_same xs place y y within)
        | inr after ↦
            let same : place ≡ kept = omega arith in
            subst (λ k. take (k + 1) (swap (slice_set xs place y) k place) ≡ take k xs ++ y ∷ []) same (take-swapped_same place within)
      ]

  -- and those after it are unchanged
  pub drop-swapped : (kept place : ℕ) → kept ≤ place → place < length xs → drop (place + 1) (swap (slice_set xs place y) kept place) ≡ drop (place + 1) xs
  drop-swapped kept place behind within =
      let here = slice_set xs place y in
      let v = get_or here place y in
      ap (drop (place + 1)) (swapped kept place behind within)
      ∙ drop-set-lt (place + 1) (slice_set here kept v) place (get_or here kept y) (omega arith)
      ∙ drop-set-lt (place + 1) here kept v (omega arith)
      ∙ drop-set-lt (place + 1) xs place y (omega arith)

module _ {F T : Type 0} (keeps : F → ℕ → T → Bool → F → T → Type 0) (Goal : List (T × Span) → Type 0) where
  -- the loop invariant: the entries visited so far, while those from this index on are still to be visited
  abbrev pub IsSoFar : F → ℕ → ℕ → List (T × Span) → Type 0
  IsSoFar keep kept place entries = (others : List (T × Span)) → RetainsFrom keeps keep place (drop place entries) others → Goal (take kept entries ++ others)

  -- the next entry is visited, with the results keep' and entry'
  module _ (keep keep' : F) (kept place : ℕ) (entries : List (T × Span)) (d entry' : T × Span) where
    pub so_far-kept : kept ≤ place → place < length entries → keeps keep place (get_or entries place d).0 true keep' entry'.0 → entry'.1 ≡ (get_or entries place d).1 → IsSoFar keep kept place entries → IsSoFar keep' (kept + 1) (place + 1) (swap (slice_set entries place entry') kept place)
    so_far-kept behind within asked span so_far others rest =
        let entry = get_or entries place d in
        let front = take-swapped entries entry' kept place behind within in
        let back = drop-swapped entries entry' kept place behind within in
        let here : drop place entries ≡ entry ∷ drop (place + 1) entries = rw add-one (drop-cons entries place d within) in
        let whole : entry' ∷ others ≡ (entry'.0, entry.1) ∷ others = ap (λ s. (entry'.0, s) ∷ others) span in
        rw (front, append_assoc) (so_far (entry' ∷ others) (rw here (true, keep', entry'.0, asked, others, rw back at rest, whole)))

    pub so_far-dropped : kept ≤ place → place < length entries → keeps keep place (get_or entries place d).0 false keep' entry'.0 → IsSoFar keep kept place entries → IsSoFar keep' kept (place + 1) (slice_set entries place entry')
    so_far-dropped behind within asked so_far others rest =
        let entry = get_or entries place d in
        let front = take-set-le kept entries place entry' behind in
        let back = drop-set-lt (place + 1) entries place entry' (omega arith) in
        let here : drop place entries ≡ entry ∷ drop (place + 1) entries = rw add-one (drop-cons entries place d within) in
        rw front (so_far others (rw here (false, keep', entry'.0, asked, others, rw back at rest, refl)))

  -- when all are visited, the retained ones are the result
  pub so_far-all : (keep : F) (kept place : ℕ) (entries : List (T × Span)) → length entries ≤ place → IsSoFar keep kept place entries → Goal (take kept entries)
  so_far-all keep kept place entries end so_far =
      subst Goal (append-nil (take kept entries)) (so_far [] (rw (drop_all place entries end) refl))
