-- Scope in concrete bodies: a test of a whole body, and tests of one position.
use Rattle.std.proofs.Common.{◌≡◌, ◌&&◌, ◌||◌, not, ℕ, zero, suc, Bool, true, false, List, [], ◌∷◌, ◌++◌, ◌⊎◌, inl, inr, ⊎_elim, Option, Some, None, IsSomeAnd, Contains, nat_eq, slice_get, arith, refl, sym, ap, ◌∙◌, subst, true≢false}
use Rattle.std.proofs.lemmas.Bool.{eqb-true, eq-eqb}
use Rattle.ir_blocks.specs.judged.Places.{Place, here, later, inside, condition, spot_at, condition_of}
use Rattle.ir_blocks.specs.judged.Plain.{PlainStatement, emit, block, if_, switch, loop, break, continue, return, kill, operation, call, PlainBlock, stop, next, PlainCases, no_case, case}
use Rattle.ir_blocks.specs.judged.Shapes.{Part, inner, accepting, rejecting, case_at, loop_body, loop_continuing, shape_of, part_of, case_body}
use Rattle.ir_types.specs.judged.ExpressionPlain.{PlainExpression}
use Rattle.ir_items.specs.judged.Plain.{PlainFunction}
use Rattle.spec_expressions.specs.judged.Operands.{given}
use Rattle.spec_statements.proofs.ScopeLaws.{none_held, scope_by_walk_lem}
use Rattle.spec_statements.specs.judged.Scope.{is_pre_emitted, PreEmitted, ScopeOK}
use Rattle.spec_statements.specs.judged.Tables.{statement_checked, checked_at, introduced, introduced_at}
use Rattle.spec_statements.specs.judged.Visible.{top_level, entering, at_condition, visible}

-- ---- tests

abbrev pub holds : List ℕ → ℕ → Bool
holds [] e = false
holds (x ∷ xs) e = nat_eq x e || holds xs e

abbrev pub always : Option PlainExpression → Bool
always None = false
always (Some x) = is_pre_emitted x

abbrev pub known : PlainFunction → List ℕ → ℕ → Bool
known f scope e = always (slice_get f.expressions e) || holds scope e

abbrev pub each : (ℕ → Bool) → List ℕ → Bool
each test [] = true
each test (e ∷ es) = test e && each test es

abbrev pub own_fine : PlainFunction → List ℕ → PlainStatement → Bool
own_fine f scope s = each (known f scope) (statement_checked s) && each (λ e. not (known f scope e)) (introduced s)

abbrev mutual
  pub fine : PlainFunction → List ℕ → PlainBlock → Bool
  fine f scope stop = true
  fine f scope (next s rest) = own_fine f scope s && (inside_fine f scope s && fine f (scope ++ introduced s) rest)

  pub inside_fine : PlainFunction → List ℕ → PlainStatement → Bool
  inside_fine f scope (emit first end) = true
  inside_fine f scope (block b) = fine f scope b
  inside_fine f scope (if_ test accept reject) = fine f scope accept && fine f scope reject
  inside_fine f scope (switch selector cases) = cases_fine f scope cases
  inside_fine f scope (loop body continuing break_if) =
      fine f scope body
      && (fine f (scope ++ top_level body) continuing
      && each (known f ((scope ++ top_level body) ++ top_level continuing)) (given (break_if ∷ [])))
  inside_fine f scope break = true
  inside_fine f scope continue = true
  inside_fine f scope (return value) = true
  inside_fine f scope kill = true
  inside_fine f scope (operation a) = true
  inside_fine f scope (call function arguments answer) = true

  pub cases_fine : PlainFunction → List ℕ → PlainCases → Bool
  cases_fine f scope no_case = true
  cases_fine f scope (case value body falls rest) = fine f scope body && cases_fine f scope rest

-- ---- their meaning

both : (a b : Bool) → a && b ≡ true → (a ≡ true) × (b ≡ true)
both true b e = (refl, e)
both false b e = absurd (true≢false (sym e))

one_of : (a b : Bool) → a || b ≡ true → (a ≡ true) ⊎ (b ≡ true)
one_of true b e = inl refl
one_of false b e = inr e

holds_held : (xs : List ℕ) (e : ℕ) → holds xs e ≡ true → Contains xs e
holds_held [] e h = absurd (true≢false (sym h))
holds_held (x ∷ xs) e h = ⊎_elim (λ same. (0, omega arith, eqb-true x e same)) (λ more. let k = holds_held xs e more in (suc k.0, omega (arith, k.1), k.2)) (one_of (nat_eq x e) (holds xs e) h)

held_holds : (xs : List ℕ) (e : ℕ) → Contains xs e → holds xs e ≡ true
held_holds [] e held = none_held e held
held_holds (x ∷ xs) e (zero, low, same) = ap (λ b. b || holds xs e) (eq-eqb x e same)
held_holds (x ∷ xs) e (suc k, low, same) = or_true (nat_eq x e) (holds xs e) (held_holds xs e (k, omega (arith, low), same))
  where
    or_true : (a b : Bool) → b ≡ true → a || b ≡ true
    or_true true b h = refl
    or_true false b h = h

each_held : (test : ℕ → Bool) (xs : List ℕ) → each test xs ≡ true → (e : ℕ) → Contains xs e → test e ≡ true
each_held test [] h e held = none_held e held
each_held test (x ∷ xs) h e (zero, low, same) = subst (λ y. test y ≡ true) same (both (test x) (each test xs) h).0
each_held test (x ∷ xs) h e (suc k, low, same) = each_held test xs (both (test x) (each test xs) h).1 e (k, omega (arith, low), same)

always_pre : (o : Option PlainExpression) → always o ≡ true → IsSomeAnd o (λ x. is_pre_emitted x ≡ true)
always_pre None h = absurd (true≢false (sym h))
always_pre (Some x) h = h

pre_always : (o : Option PlainExpression) → IsSomeAnd o (λ x. is_pre_emitted x ≡ true) → always o ≡ true
pre_always None h = absurd h
pre_always (Some x) h = h

known_so : (f : PlainFunction) (scope : List ℕ) (e : ℕ) → known f scope e ≡ true → PreEmitted f e ⊎ Contains scope e
known_so f scope e h =
    ⊎_elim (λ pre. inl (always_pre (slice_get f.expressions e) pre)) (λ held. inr (holds_held scope e held)) (one_of (always (slice_get f.expressions e)) (holds scope e) h)

so_known : (f : PlainFunction) (scope : List ℕ) (e : ℕ) → PreEmitted f e ⊎ Contains scope e → known f scope e ≡ true
so_known f scope e (inl pre) = ap (λ b. b || holds scope e) (pre_always (slice_get f.expressions e) pre)
so_known f scope e (inr held) = or_true (always (slice_get f.expressions e)) (holds scope e) (held_holds scope e held)
  where
    or_true : (a b : Bool) → b ≡ true → a || b ≡ true
    or_true true b h = refl
    or_true false b h = h

-- ---- a whole body

case_fine : (f : PlainFunction) (scope : List ℕ) (cs : PlainCases) (k : ℕ) → cases_fine f scope cs ≡ true → fine f scope (case_body cs k) ≡ true
case_fine f scope no_case k h = refl
case_fine f scope (case value body falls rest) zero h = (both (fine f scope body) _ h).0
case_fine f scope (case value body falls rest) (suc k) h = case_fine f scope rest k (both (fine f scope body) _ h).1

part_fine : (f : PlainFunction) (scope : List ℕ) (s : PlainStatement) (part : Part) → inside_fine f scope s ≡ true → fine f (entering scope s part) (part_of (shape_of s) part) ≡ true
part_fine f scope (emit first end) part h = refl
part_fine f scope (block b) inner h = h
part_fine f scope (block b) _ h = refl
part_fine f scope (if_ test accept reject) accepting h = (both (fine f scope accept) _ h).0
part_fine f scope (if_ test accept reject) rejecting h = (both (fine f scope accept) _ h).1
part_fine f scope (if_ test accept reject) _ h = refl
part_fine f scope (switch selector cases) (case_at k) h = case_fine f scope cases k h
part_fine f scope (switch selector cases) _ h = refl
part_fine f scope (loop body continuing break_if) loop_body h = (both (fine f scope body) _ h).0
part_fine f scope (loop body continuing break_if) loop_continuing h = (both (fine f (scope ++ top_level body) continuing) _ (both (fine f scope body) _ h).1).0
part_fine f scope (loop body continuing break_if) _ h = refl
part_fine f scope break part h = refl
part_fine f scope continue part h = refl
part_fine f scope (return value) part h = refl
part_fine f scope kill part h = refl
part_fine f scope (operation a) part h = refl
part_fine f scope (call function arguments answer) part h = refl

condition_fine : (f : PlainFunction) (scope : List ℕ) (s : PlainStatement) → inside_fine f scope s ≡ true → each (known f (at_condition scope s)) (given (condition_of (shape_of s) ∷ [])) ≡ true
condition_fine f scope (emit first end) h = refl
condition_fine f scope (block b) h = refl
condition_fine f scope (if_ test accept reject) h = refl
condition_fine f scope (switch selector cases) h = refl
condition_fine f scope (loop body continuing break_if) h = (both (fine f (scope ++ top_level body) continuing) _ (both (fine f scope body) _ h).1).1
condition_fine f scope break h = refl
condition_fine f scope continue h = refl
condition_fine f scope (return value) h = refl
condition_fine f scope kill h = refl
condition_fine f scope (operation a) h = refl
condition_fine f scope (call function arguments answer) h = refl

used_fine : (f : PlainFunction) (p : Place) (b : PlainBlock) (scope : List ℕ) → fine f scope b ≡ true → each (known f (visible scope p b)) (checked_at (spot_at p b)) ≡ true
used_fine f here stop scope h = refl
used_fine f here (next s rest) scope h = (both (each (known f scope) (statement_checked s)) _ (both (own_fine f scope s) _ h).0).0
used_fine f (later p) stop scope h = refl
used_fine f (later p) (next s rest) scope h = used_fine f p rest (scope ++ introduced s) (both (inside_fine f scope s) _ (both (own_fine f scope s) _ h).1).1
used_fine f (inside part p) stop scope h = refl
used_fine f (inside part p) (next s rest) scope h =
    used_fine f p (part_of (shape_of s) part) (entering scope s part) (part_fine f scope s part (both (inside_fine f scope s) _ (both (own_fine f scope s) _ h).1).0)
used_fine f condition stop scope h = refl
used_fine f condition (next s rest) scope h = condition_fine f scope s (both (inside_fine f scope s) _ (both (own_fine f scope s) _ h).1).0

brought_fine : (f : PlainFunction) (p : Place) (b : PlainBlock) (scope : List ℕ) → fine f scope b ≡ true → each (λ e. not (known f (visible scope p b) e)) (introduced_at (spot_at p b)) ≡ true
brought_fine f here stop scope h = refl
brought_fine f here (next s rest) scope h = (both (each (known f scope) (statement_checked s)) _ (both (own_fine f scope s) _ h).0).1
brought_fine f (later p) stop scope h = refl
brought_fine f (later p) (next s rest) scope h = brought_fine f p rest (scope ++ introduced s) (both (inside_fine f scope s) _ (both (own_fine f scope s) _ h).1).1
brought_fine f (inside part p) stop scope h = refl
brought_fine f (inside part p) (next s rest) scope h =
    brought_fine f p (part_of (shape_of s) part) (entering scope s part) (part_fine f scope s part (both (inside_fine f scope s) _ (both (own_fine f scope s) _ h).1).0)
brought_fine f condition stop scope h = refl
brought_fine f condition (next s rest) scope h = refl

not_both : (b : Bool) → b ≡ true → not b ≡ true → ⊥
not_both true h n = true≢false (sym n)
not_both false h n = true≢false (sym h)

-- all of the body is valid
pub in_order : (f : PlainFunction) → fine f [] f.body ≡ true → ScopeOK f
in_order f h = record {
  in_scope = λ p e used. (scope_by_walk_lem f p e).1 (known_so f (visible [] p f.body) e (each_held _ _ (used_fine f p f.body [] h) e used));
  fresh = λ p e brought scope. not_both (known f (visible [] p f.body) e) (so_known f (visible [] p f.body) e ((scope_by_walk_lem f p e).0 scope)) (each_held _ _ (brought_fine f p f.body [] h) e brought);
}

-- ---- one position

-- an expression is used where it is not in scope
pub used_early : (f : PlainFunction) (p : Place) (e : ℕ) → holds (checked_at (spot_at p f.body)) e ≡ true → known f (visible [] p f.body) e ≡ false → ScopeOK f → ⊥
used_early f p e used unknown ok = true≢false (sym (so_known f (visible [] p f.body) e ((scope_by_walk_lem f p e).0 (ok.in_scope p e (holds_held _ e used)))) ∙ unknown)

-- an expression enters scope twice
pub brought_again : (f : PlainFunction) (p : Place) (e : ℕ) → holds (introduced_at (spot_at p f.body)) e ≡ true → known f (visible [] p f.body) e ≡ true → ScopeOK f → ⊥
brought_again f p e brought there ok = ok.fresh p e (holds_held _ e brought) ((scope_by_walk_lem f p e).1 (known_so f (visible [] p f.body) e there))
