-- A test made everywhere passes at every place.
use Rattle.std.proofs.Common.{◌≡◌, ℕ, zero, suc, Bool, true, false, ◌&&◌, refl, subst}
use Rattle.ir_items.specs.IrBlocks.{PlainStatement, emit, block, if_, switch, loop, break, continue, return, kill, operation, call, PlainBlock, stop, next, PlainCases, no_case, case, shape_of, Part, inner, accepting, rejecting, case_at, loop_body, loop_continuing, case_body, part_of, Place, here, later, inside, condition, OccursAt}
use Rattle.spec_expressions.specs.found.Everywhere.{everywhere, in_statement, in_cases}

pub both_true : (a b : Bool) → (a && b) ≡ true → (a ≡ true) × (b ≡ true)
both_true true b e = (refl, e)
both_true false b e = cc

pub true_both : (a b : Bool) → a ≡ true → b ≡ true → (a && b) ≡ true
true_both true b e f = f
true_both false b e f = cc

pub none_in_stop : (p : Place) (s : PlainStatement) → OccursAt stop p s → ⊥
none_in_stop here s e = let x = e in cc
none_in_stop (later p) s e = let x = e in cc
none_in_stop (inside part p) s e = let x = e in cc
none_in_stop condition s e = let x = e in cc

module _ (ok : PlainStatement → Bool) where
  -- ---- from everywhere to each place

  own_passes : (s : PlainStatement) → in_statement ok s ≡ true → ok s ≡ true
  own_passes (emit first end) e = e
  own_passes (block b) e = (both_true _ _ e).0
  own_passes (if_ test accept reject) e = (both_true _ _ e).0
  own_passes (switch selector cases) e = (both_true _ _ e).0
  own_passes (loop body continuing break_if) e = (both_true _ _ e).0
  own_passes break e = e
  own_passes continue e = e
  own_passes (return value) e = e
  own_passes kill e = e
  own_passes (operation a) e = e
  own_passes (call function arguments result) e = e

  case_passes : (cs : PlainCases) (k : ℕ) → in_cases ok cs ≡ true → everywhere ok (case_body cs k) ≡ true
  case_passes no_case k e = refl
  case_passes (case value body falls rest) zero e = (both_true _ _ e).0
  case_passes (case value body falls rest) (suc k) e = case_passes rest k (both_true _ _ e).1

  part_passes : (s : PlainStatement) (part : Part) → in_statement ok s ≡ true → everywhere ok (part_of (shape_of s) part) ≡ true
  part_passes (emit first end) part e = refl
  part_passes (block b) inner e = (both_true _ _ e).1
  part_passes (block b) _ e = refl
  part_passes (if_ test accept reject) accepting e = (both_true _ _ (both_true _ _ e).1).0
  part_passes (if_ test accept reject) rejecting e = (both_true _ _ (both_true _ _ e).1).1
  part_passes (if_ test accept reject) _ e = refl
  part_passes (switch selector cases) (case_at k) e = case_passes cases k (both_true _ _ e).1
  part_passes (switch selector cases) _ e = refl
  part_passes (loop body continuing break_if) loop_body e = (both_true _ _ (both_true _ _ e).1).0
  part_passes (loop body continuing break_if) loop_continuing e = (both_true _ _ (both_true _ _ e).1).1
  part_passes (loop body continuing break_if) _ e = refl
  part_passes break part e = refl
  part_passes continue part e = refl
  part_passes (return value) part e = refl
  part_passes kill part e = refl
  part_passes (operation a) part e = refl
  part_passes (call function arguments result) part e = refl

  pub passes_at : (p : Place) (b : PlainBlock) → everywhere ok b ≡ true → (s : PlainStatement) → OccursAt b p s → ok s ≡ true
  passes_at p stop e s at = absurd (none_in_stop p s at)
  passes_at here (next u rest) e s at =
      let u_is : u ≡ s = (let x = at in cc) in
      subst (λ x. ok x ≡ true) u_is (own_passes u (both_true _ _ e).0)
  passes_at (later p) (next u rest) e s at = passes_at p rest (both_true _ _ e).1 s at
  passes_at (inside part p) (next u rest) e s at =
      passes_at p (part_of (shape_of u) part) (part_passes u part (both_true _ _ e).0) s at
  passes_at condition (next u rest) e s at = let x = at in cc

  -- ---- from each place to everywhere

  abbrev PassesAt : PlainBlock → Type 0
  PassesAt b = (p : Place) (s : PlainStatement) → OccursAt b p s → ok s ≡ true

  mutual
    pub passes_everywhere : (b : PlainBlock) → PassesAt b → everywhere ok b ≡ true
    passes_everywhere stop h = refl
    passes_everywhere (next s rest) h =
        true_both _ _ (statement_passes s (h here s refl) (λ part p t at. h (inside part p) t at)) (passes_everywhere rest (λ p t at. h (later p) t at))

    statement_passes : (s : PlainStatement) → ok s ≡ true → ((part : Part) → PassesAt (part_of (shape_of s) part)) → in_statement ok s ≡ true
    statement_passes (emit first end) own h = own
    statement_passes (block b) own h = true_both _ _ own (passes_everywhere b (h inner))
    statement_passes (if_ test accept reject) own h =
        true_both _ _ own (true_both _ _ (passes_everywhere accept (h accepting)) (passes_everywhere reject (h rejecting)))
    statement_passes (switch selector cases) own h = true_both _ _ own (cases_pass cases (λ k. h (case_at k)))
    statement_passes (loop body continuing break_if) own h =
        true_both _ _ own (true_both _ _ (passes_everywhere body (h loop_body)) (passes_everywhere continuing (h loop_continuing)))
    statement_passes break own h = own
    statement_passes continue own h = own
    statement_passes (return value) own h = own
    statement_passes kill own h = own
    statement_passes (operation a) own h = own
    statement_passes (call function arguments result) own h = own

    cases_pass : (cs : PlainCases) → ((k : ℕ) → PassesAt (case_body cs k)) → in_cases ok cs ≡ true
    cases_pass no_case h = refl
    cases_pass (case value body falls rest) h = true_both _ _ (passes_everywhere body (h zero)) (cases_pass rest (λ k. h (suc k)))
