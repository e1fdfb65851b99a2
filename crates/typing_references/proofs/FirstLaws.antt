-- A match of a search exists at some place, and if there is no match there is none at any place.
use Rattle.std.proofs.Common.{◌≡◌, ◌⊎◌, inl, inr, ℕ, zero, suc, ◌+◌, ◌<◌, ◌≤◌, List, [], ◌∷◌, map, true, false, ◌&&◌, if◌then◌else◌, Option, Some, None, nat_lt, refl, subst, slice_get, All, Contains, arith}
use Rattle.std.proofs.lemmas.List.Elements.{All-contains}
use Rattle.std.proofs.lemmas.List.Sums.{AllPass-from_list_all}
use Rattle.std.proofs.lemmas.Option.{get_or_from_slice_get, same_Some, slice_get_within}
use Rattle.std.specs.List.{list_all}
use Rattle.std.specs.Option.{option_or}
use borrow.Author.Tests.{ltb-true, ltb-false}
use Rattle.ir_arena.specs.judged.Handles.{handles_from}
use Rattle.ir_arena.specs.declared.span.Span.{Span}
use Rattle.ir_blocks.specs.judged.Plain.{PlainStatement, emit, block, if_, switch, loop, break, continue, return, kill, operation, call, PlainBlock, stop, next, PlainCases, no_case, case}
use Rattle.ir_blocks.specs.judged.Shapes.{shape_of, Part, inner, accepting, rejecting, case_at, loop_body, loop_continuing, case_body, part_of}
use Rattle.ir_blocks.specs.judged.Places.{Place, here, later, inside, condition, OccursAt}
use Rattle.ir_items.specs.found.GlobalView.{values_of}
use Rattle.typing_references.specs.First.{first_past, first_of, first_in, first_at, first_in_cases}

module _ {F : Type 0} where
  pub or_none : (a b : Option F) → option_or a b ≡ None → (a ≡ None) × (b ≡ None)
  or_none None b e = (refl, e)
  or_none (Some x) b e = cc

  pub or_some : (a b : Option F) (x : F) → option_or a b ≡ Some x → (a ≡ Some x) ⊎ (b ≡ Some x)
  or_some None b x e = inr e
  or_some (Some y) b x e = inl e

-- ---- handles that don't come before a bound

past_none : (end : ℕ) (hs : List ℕ) → first_past end hs ≡ None → list_all (λ h. nat_lt h end) hs ≡ true
past_none end [] e = refl
past_none end (x ∷ xs) e = elim (nat_lt x end) as (λ b. (if b then first_past end xs else Some x) ≡ None → (b && list_all (λ h. nat_lt h end) xs) ≡ true) [
  | true ↦ λ g. past_none end xs g
  | false ↦ λ g. cc
] e

pub below_each : (end : ℕ) (hs : List ℕ) → first_past end hs ≡ None → (h : ℕ) → Contains hs h → h < end
below_each end hs e h c = All-contains (λ x. x < end) hs h (λ k d lt. ltb-true _ end (AllPass-from_list_all (λ x. nat_lt x end) hs (past_none end hs e) k d lt)) c

pub below_all : (end : ℕ) (hs : List ℕ) → first_past end hs ≡ None → All (λ x. x < end) hs
below_all end hs e k d lt = ltb-true _ end (AllPass-from_list_all (λ x. nat_lt x end) hs (past_none end hs e) k d lt)

past_at : (end : ℕ) (hs : List ℕ) (h : ℕ) → first_past end hs ≡ Some h → (i : ℕ) × (slice_get hs i ≡ Some h) × (end ≤ h)
past_at end [] h e = cc
past_at end (x ∷ xs) h e = elim (nat_lt x end) as (λ b. nat_lt x end ≡ b → (if b then first_past end xs else Some x) ≡ Some h → (i : ℕ) × (slice_get (x ∷ xs) i ≡ Some h) × (end ≤ h)) [
  | true ↦ λ lt g. let r = past_at end xs h g in (suc r.0, r.1, r.2)
  | false ↦ λ lt g. (0, g, subst (λ y. end ≤ y) (same_Some x h g) (ltb-false x end lt))
] refl e

-- the first of them is one of them, and doesn't come before the bound
pub past_one : (end : ℕ) (hs : List ℕ) (h : ℕ) → first_past end hs ≡ Some h → Contains hs h × ¬ (h < end)
past_one end hs h e =
    let r = past_at end hs h e in
    ((r.0, slice_get_within hs r.0 h r.1, get_or_from_slice_get hs r.0 h h r.1), λ lt. omega (arith, r.2, lt))

-- ---- items of a list

module _ {A F : Type 0} (look : A → Option F) where
  pub none_each : (xs : List A) → first_of look xs ≡ None → (i : ℕ) (x : A) → slice_get xs i ≡ Some x → look x ≡ None
  none_each [] e i x h = cc
  none_each (y ∷ ys) e zero x h = subst (λ z. look z ≡ None) (same_Some y x h) (or_none _ _ e).0
  none_each (y ∷ ys) e (suc i) x h = none_each ys (or_none _ _ e).1 i x h

  pub one_found : (xs : List A) (found : F) → first_of look xs ≡ Some found → (i : ℕ) × (x : A) × (slice_get xs i ≡ Some x) × (look x ≡ Some found)
  one_found [] found e = cc
  one_found (y ∷ ys) found e = elim (or_some _ _ found e) [
    | inl a ↦ (0, y, refl, a)
    | inr b ↦ (let r = one_found ys found b in (suc r.0, r.1, r.2, r.3))
  ]

-- the first match of a search that knows the index of an item, where the first has index n
module _ {T A F : Type 0} (view : T → A) (look : ℕ → A → Option F) where
  abbrev pub in_entries : (n : ℕ) → List (T × Span) → Option F
  in_entries n entries = first_of (λ h. look h.0 (view h.1)) (handles_from n entries)

  none_from : (n : ℕ) (entries : List (T × Span)) → in_entries n entries ≡ None → (i : ℕ) (x : A) → slice_get (map view (values_of entries)) i ≡ Some x → look (n + i) x ≡ None
  none_from n [] e i x h = cc
  none_from n (y ∷ ys) e zero x h = subst (λ k. look k x ≡ None) (omega arith) (subst (λ z. look n z ≡ None) (same_Some (view y.0) x h) (or_none _ _ e).0)
  none_from n (y ∷ ys) e (suc i) x h = subst (λ k. look k x ≡ None) (omega arith) (none_from (n + 1) ys (or_none _ _ e).1 i x h)

  found_from : (n : ℕ) (entries : List (T × Span)) (found : F) → in_entries n entries ≡ Some found
      → (i : ℕ) × (x : A) × (slice_get (map view (values_of entries)) i ≡ Some x) × (look (n + i) x ≡ Some found)
  found_from n [] found e = cc
  found_from n (y ∷ ys) found e = elim (or_some _ _ found e) [
    | inl a ↦ (0, view y.0, refl, subst (λ k. look k (view y.0) ≡ Some found) (omega arith) a)
    | inr b ↦ (let r = found_from (n + 1) ys found b in (suc r.0, r.1, r.2, subst (λ k. look k r.1 ≡ Some found) (omega arith) r.3))
  ]

  -- the first has index 0
  pub none_in : (entries : List (T × Span)) → in_entries 0 entries ≡ None → (i : ℕ) (x : A) → slice_get (map view (values_of entries)) i ≡ Some x → look i x ≡ None
  none_in entries e i x h = subst (λ k. look k x ≡ None) (omega arith) (none_from 0 entries e i x h)

  pub found_in : (entries : List (T × Span)) (found : F) → in_entries 0 entries ≡ Some found → (i : ℕ) × (x : A) × (slice_get (map view (values_of entries)) i ≡ Some x) × (look i x ≡ Some found)
  found_in entries found e =
      let r = found_from 0 entries found e in
      (r.0, r.1, r.2, subst (λ k. look k r.1 ≡ Some found) (omega arith) r.3)

-- ---- statements of a body

none_in_stop : (p : Place) (s : PlainStatement) → OccursAt stop p s → ⊥
none_in_stop here s e = let x = e in cc
none_in_stop (later p) s e = let x = e in cc
none_in_stop (inside part p) s e = let x = e in cc
none_in_stop condition s e = let x = e in cc

module _ {F : Type 0} (look : PlainStatement → Option F) where
  own_none : (s : PlainStatement) → first_at look s ≡ None → look s ≡ None
  own_none (emit first end) e = e
  own_none (block b) e = (or_none _ _ e).0
  own_none (if_ test accept reject) e = (or_none _ _ e).0
  own_none (switch selector cases) e = (or_none _ _ e).0
  own_none (loop body continuing break_if) e = (or_none _ _ e).0
  own_none break e = e
  own_none continue e = e
  own_none (return value) e = e
  own_none kill e = e
  own_none (operation a) e = e
  own_none (call function arguments result) e = e

  case_none : (cs : PlainCases) (k : ℕ) → first_in_cases look cs ≡ None → first_in look (case_body cs k) ≡ None
  case_none no_case k e = refl
  case_none (case value body falls rest) zero e = (or_none _ _ e).0
  case_none (case value body falls rest) (suc k) e = case_none rest k (or_none _ _ e).1

  part_none : (s : PlainStatement) (part : Part) → first_at look s ≡ None → first_in look (part_of (shape_of s) part) ≡ None
  part_none (emit first end) part e = refl
  part_none (block b) inner e = (or_none _ _ e).1
  part_none (block b) _ e = refl
  part_none (if_ test accept reject) accepting e = (or_none _ _ (or_none _ _ e).1).0
  part_none (if_ test accept reject) rejecting e = (or_none _ _ (or_none _ _ e).1).1
  part_none (if_ test accept reject) _ e = refl
  part_none (switch selector cases) (case_at k) e = case_none cases k (or_none _ _ e).1
  part_none (switch selector cases) _ e = refl
  part_none (loop body continuing break_if) loop_body e = (or_none _ _ (or_none _ _ e).1).0
  part_none (loop body continuing break_if) loop_continuing e = (or_none _ _ (or_none _ _ e).1).1
  part_none (loop body continuing break_if) _ e = refl
  part_none break part e = refl
  part_none continue part e = refl
  part_none (return value) part e = refl
  part_none kill part e = refl
  part_none (operation a) part e = refl
  part_none (call function arguments result) part e = refl

  pub none_at : (p : Place) (b : PlainBlock) → first_in look b ≡ None → (s : PlainStatement) → OccursAt b p s → look s ≡ None
  none_at p stop e s at = absurd (none_in_stop p s at)
  none_at here (next u rest) e s at =
      let u_is : u ≡ s = (let x = at in cc) in
      subst (λ x. look x ≡ None) u_is (own_none u (or_none _ _ e).0)
  none_at (later p) (next u rest) e s at = none_at p rest (or_none _ _ e).1 s at
  none_at (inside part p) (next u rest) e s at =
      none_at p (part_of (shape_of u) part) (part_none u part (or_none _ _ e).0) s at
  none_at condition (next u rest) e s at = let x = at in cc

  -- the match is at some place of a body
  abbrev pub FoundIn : PlainBlock → F → Type 0
  FoundIn b found = (p : Place) × (s : PlainStatement) × OccursAt b p s × (look s ≡ Some found)

  -- in a statement, or in a part of it
  abbrev FoundAt : PlainStatement → F → Type 0
  FoundAt s found = (look s ≡ Some found) ⊎ ((part : Part) × FoundIn (part_of (shape_of s) part) found)

  mutual
    pub place_found : (b : PlainBlock) (found : F) → first_in look b ≡ Some found → FoundIn b found
    place_found stop found e = cc
    place_found (next s rest) found e = elim (or_some _ _ found e) [
      | inl a ↦ elim (statement_found s found a) [ inl own ↦ (here, s, refl, own) | inr r ↦ (inside r.0 r.1.0, r.1.1, r.1.2, r.1.3) ]
      | inr b ↦ (let r = place_found rest found b in (later r.0, r.1, r.2, r.3))
    ]

    statement_found : (s : PlainStatement) (found : F) → first_at look s ≡ Some found → FoundAt s found
    statement_found (emit first end) found e = inl e
    statement_found (block b) found e = elim (or_some _ _ found e) [ inl a ↦ inl a | inr c ↦ inr (inner, place_found b found c) ]
    statement_found (if_ test accept reject) found e = elim (or_some _ _ found e) [
      | inl a ↦ inl a
      | inr c ↦ elim (or_some _ _ found c) [ inl d ↦ inr (accepting, place_found accept found d) | inr d ↦ inr (rejecting, place_found reject found d) ]
    ]
    statement_found (switch selector cases) found e = elim (or_some _ _ found e) [
      | inl a ↦ inl a
      | inr c ↦ (let r = case_found cases found c in inr (case_at r.0, r.1))
    ]
    statement_found (loop body continuing break_if) found e = elim (or_some _ _ found e) [
      | inl a ↦ inl a
      | inr c ↦ elim (or_some _ _ found c) [ inl d ↦ inr (loop_body, place_found body found d) | inr d ↦ inr (loop_continuing, place_found continuing found d) ]
    ]
    statement_found break found e = inl e
    statement_found continue found e = inl e
    statement_found (return value) found e = inl e
    statement_found kill found e = inl e
    statement_found (operation a) found e = inl e
    statement_found (call function arguments result) found e = inl e

    case_found : (cs : PlainCases) (found : F) → first_in_cases look cs ≡ Some found → (k : ℕ) × FoundIn (case_body cs k) found
    case_found no_case found e = cc
    case_found (case value body falls rest) found e = elim (or_some _ _ found e) [
      | inl a ↦ (zero, place_found body found a)
      | inr b ↦ (let r = case_found rest found b in (suc r.0, r.1))
    ]
