-- The computed disruption agrees with the definition.
use Rattle.std.proofs.Common.{◌≡◌, ℕ, zero, suc, Bool, true, false, ◌||◌, IsTrue, Option, Some, None, ⊎_elim, inl, inr, ◌⊎◌, refl, sym, subst}
use Rattle.std.proofs.lemmas.Bool.{or_cases, or_left, or_right}
use Rattle.ir_items.specs.IrBlocks.{PlainStatement, emit, block, if_, switch, loop, break, continue, return, kill, operation, call, PlainBlock, stop, next, PlainCases, no_case, case, Part, inner, accepting, rejecting, case_at, loop_body, loop_continuing, shape_of, case_body, part_of, Place, here, later, inside, condition, IsTop, top_here, top_later, Before, earlier, both_later, both_inside, body_before_continuing, body_before_condition, continuing_before_condition, statement, OccursAt}
use Rattle.spec_expressions.specs.judged.Positions.{Holds, itself, in_part, holds_later, holds_inside, Around, around, around_later, around_inside}
use Rattle.spec_expressions.specs.judged.Disruption.{chosen_by, is_end, Disrupted, already, chosen, after, ends_in, ends_at, ends_in_cases, enter, at_condition, disrupted_at}
use Rattle.spec_expressions.proofs.EverywhereLaws.{none_in_stop}

-- for a decidable test
abbrev pub DisruptedBy : (ℕ → Bool) → Bool → PlainBlock → Place → Type 0
DisruptedBy varies d body p = Disrupted (λ h. IsTrue (varies h)) d body p

after_end : {varies : ℕ → Type 0} {outer : Bool} {body : PlainBlock} {p q r : Place} (s : PlainStatement) → Before q p → Holds q r → OccursAt body r s → IsTrue (is_end s)
    → Disrupted varies outer body r → Disrupted varies outer body p
after_end {q = q} s b o at e d = after (record { end = s; stands = at; ends = e; earlier = q; holds = o; before = b }) d

false_is_not : {A : Type 0} → IsTrue false → A
false_is_not h = absurd (cc)

same_statement : (s t : PlainStatement) → statement s ≡ statement t → s ≡ t
same_statement s t e = cc

same_handle : (x h : ℕ) → Some x ≡ Some h → x ≡ h
same_handle x h e = cc

no_handle : {A : Type 0} (h : ℕ) → None ≡ Some h → A
no_handle h e = absurd (cc)

module _ (varies : ℕ → Bool) where
  -- ---- nested places of a disrupted place are disrupted

  stays_in : (d : Bool) (s : PlainStatement) (part : Part) → IsTrue d → IsTrue (enter varies d s part)
  stays_in d (if_ x a r) part h = or_left d _ h
  stays_in d (switch x cases) part h = or_left d _ h
  stays_in d (loop b r o) loop_continuing h = or_left d _ h
  stays_in d _ _ h = h

  stays_at : (d : Bool) (s : PlainStatement) → IsTrue d → IsTrue (at_condition varies d s)
  stays_at d (loop b r o) h = or_left d _ h
  stays_at d _ h = h

  stays : (p : Place) (d : Bool) (body : PlainBlock) → IsTrue d → IsTrue (disrupted_at varies d p body)
  stays here d body h = h
  stays (later p) d stop h = h
  stays (later p) d (next s rest) h = stays p _ rest (or_left d _ h)
  stays (inside part p) d stop h = h
  stays (inside part p) d (next s rest) h = stays p _ (part_of (shape_of s) part) (stays_in d s part h)
  stays condition d stop h = h
  stays condition d (next s rest) h = stays_at d s h

  -- ---- from places to the computation

  own_end : (d : Bool) (s : PlainStatement) → IsTrue (is_end s) → IsTrue d → IsTrue (ends_at varies d s)
  own_end d (return value) e h = h
  own_end d kill e h = h
  own_end d _ e h = false_is_not e

  case_ends : (k : ℕ) (cases : PlainCases) (d : Bool) → IsTrue (ends_in varies d (case_body cases k)) → IsTrue (ends_in_cases varies d cases)
  case_ends k no_case d h = h
  case_ends zero (case value body falls rest) d h = or_left _ _ h
  case_ends (suc k) (case value body falls rest) d h = or_right (ends_in varies d body) _ (case_ends k rest d h)

  part_ends : (s : PlainStatement) (part : Part) (d : Bool) → IsTrue (ends_in varies (enter varies d s part) (part_of (shape_of s) part)) → IsTrue (ends_at varies d s)
  part_ends (block b) inner d h = h
  part_ends (if_ x a r) accepting d h = or_left _ _ h
  part_ends (if_ x a r) rejecting d h = or_right (ends_in varies (d || varies x) a) _ h
  part_ends (switch x cases) (case_at k) d h = case_ends k cases _ h
  part_ends (loop b r o) loop_body d h = or_left _ _ h
  part_ends (loop b r o) loop_continuing d h = or_right (ends_in varies d b) _ h
  part_ends _ _ d h = false_is_not h

  ends_from : (p : Place) (d : Bool) (body : PlainBlock) (s : PlainStatement) → OccursAt body p s → IsTrue (is_end s) → IsTrue (disrupted_at varies d p body) → IsTrue (ends_in varies d body)
  ends_from p d stop s at e h = absurd (none_in_stop p s at)
  ends_from here d (next u rest) s at e h = or_left _ _ (subst (λ x. IsTrue (ends_at varies d x)) (sym (same_statement u s at)) (own_end d s e h))
  ends_from (later p) d (next u rest) s at e h = or_right (ends_at varies d u) _ (ends_from p _ rest s at e h)
  ends_from (inside part p) d (next u rest) s at e h = or_left _ _ (part_ends u part d (ends_from p _ (part_of (shape_of u) part) s at e h))
  ends_from condition d (next u rest) s at e h = let x = at in cc

  first_ends : (r : Place) (d : Bool) (u : PlainStatement) (rest : PlainBlock) (s : PlainStatement) → Holds here r → OccursAt (next u rest) r s → IsTrue (is_end s)
      → IsTrue (disrupted_at varies d r (next u rest)) → IsTrue (ends_at varies d u)
  first_ends r d u rest s itself at e h = subst (λ x. IsTrue (ends_at varies d x)) (sym (same_statement u s at)) (own_end d s e h)
  first_ends r d u rest s (in_part {r = q} part) at e h = part_ends u part d (ends_from q _ (part_of (shape_of u) part) s at e h)

  turn_ends : (s : PlainStatement) (d : Bool) → IsTrue (ends_in varies (enter varies d s loop_body) (part_of (shape_of s) loop_body)) → IsTrue (enter varies d s loop_continuing)
  turn_ends (loop b r o) d h = or_right d _ h
  turn_ends _ d h = false_is_not h

  turn_before : (s : PlainStatement) (d : Bool) → IsTrue (ends_in varies (enter varies d s loop_body) (part_of (shape_of s) loop_body)) → IsTrue (at_condition varies d s)
  turn_before (loop b r o) d h = or_right d _ (or_left _ _ h)
  turn_before _ d h = false_is_not h

  continuing_before : (s : PlainStatement) (d : Bool) → IsTrue (ends_in varies (enter varies d s loop_continuing) (part_of (shape_of s) loop_continuing)) → IsTrue (at_condition varies d s)
  continuing_before (loop b r o) d h = or_right d _ (or_right (ends_in varies d b) _ h)
  continuing_before _ d h = false_is_not h

  -- after a statement that contains a disrupted return or discard
  end_before : {q p r : Place} → Before q p → Holds q r → (d : Bool) (body : PlainBlock) (s : PlainStatement) → OccursAt body r s → IsTrue (is_end s)
      → IsTrue (disrupted_at varies d r body) → IsTrue (disrupted_at varies d p body)
  end_before b o d stop s at e h = absurd (none_in_stop _ s at)
  end_before (earlier {p = p}) o d (next u rest) s at e h = stays p _ rest (or_right d _ (first_ends _ d u rest s o at e h))
  end_before (both_later b) (holds_later o) d (next u rest) s at e h = end_before b o _ rest s at e h
  end_before (both_inside part b) (holds_inside other o) d (next u rest) s at e h = end_before b o _ (part_of (shape_of u) part) s at e h
  end_before (body_before_continuing {p = p} t) (holds_inside {r = r} part o) d (next u rest) s at e h =
      stays p _ (part_of (shape_of u) loop_continuing) (turn_ends u d (ends_from r _ (part_of (shape_of u) loop_body) s at e h))
  end_before (body_before_condition t) (holds_inside {r = r} part o) d (next u rest) s at e h =
      turn_before u d (ends_from r _ (part_of (shape_of u) loop_body) s at e h)
  end_before (continuing_before_condition t) (holds_inside {r = r} part o) d (next u rest) s at e h =
      continuing_before u d (ends_from r _ (part_of (shape_of u) loop_continuing) s at e h)

  chosen_in : (d : Bool) (u : PlainStatement) (part : Part) (x : ℕ) → chosen_by u ≡ Some x → IsTrue (varies x) → IsTrue (enter varies d u part)
  chosen_in d (if_ y a r) part x is v = or_right d _ (subst (λ z. IsTrue (varies z)) (sym (same_handle y x is)) v)
  chosen_in d (switch y cases) part x is v = or_right d _ (subst (λ z. IsTrue (varies z)) (sym (same_handle y x is)) v)
  chosen_in d _ part x is v = no_handle x is

  chosen_around : {a p : Place} → Around a p → (d : Bool) (body : PlainBlock) (s : PlainStatement) (x : ℕ) → OccursAt body a s → chosen_by s ≡ Some x → IsTrue (varies x)
      → IsTrue (disrupted_at varies d p body)
  chosen_around o d stop s x at is v = absurd (none_in_stop _ s at)
  chosen_around (around {p = p} part) d (next u rest) s x at is v =
      stays p _ (part_of (shape_of u) part) (subst (λ z. IsTrue (enter varies d z part)) (sym (same_statement u s at)) (chosen_in d s part x is v))
  chosen_around (around_later o) d (next u rest) s x at is v = chosen_around o _ rest s x at is v
  chosen_around (around_inside part o) d (next u rest) s x at is v = chosen_around o _ (part_of (shape_of u) part) s x at is v

  pub found : (d : Bool) (body : PlainBlock) {p : Place} → DisruptedBy varies d body p → IsTrue (disrupted_at varies d p body)
  found d body {p = p} (already h) = stays p d body h
  found d body (chosen s x o at is v) = chosen_around o d body s x at is v
  found d body (after i u) = end_before i.before i.holds d body i.end i.stands i.ends (found d body u)

  -- ---- from the computation to places

  -- a disrupted return or discard in the body
  abbrev EndPlace : Bool → PlainBlock → Type 0
  EndPlace d body = (r : Place) × (s : PlainStatement) × OccursAt body r s × IsTrue (is_end s) × DisruptedBy varies d body r

  top_of : (r : Place) (body : PlainBlock) (s : PlainStatement) → OccursAt body r s → (q : Place) × IsTop q × Holds q r
  top_of r stop s at = absurd (none_in_stop r s at)
  top_of here (next u rest) s at = (here, top_here, itself)
  top_of (later r) (next u rest) s at = let q = top_of r rest s at in (later q.0, top_later q.1, holds_later q.2)
  top_of (inside part r) (next u rest) s at = (here, top_here, in_part part)
  top_of condition (next u rest) s at = let x = at in cc

  lift_later : (d : Bool) (u : PlainStatement) (rest : PlainBlock) → ((p : Place) → IsTrue (d || ends_at varies d u) → DisruptedBy varies d (next u rest) (later p))
      → (p : Place) → DisruptedBy varies (d || ends_at varies d u) rest p → DisruptedBy varies d (next u rest) (later p)
  lift_later d u rest outer p (already h) = outer p h
  lift_later d u rest outer p (chosen s x o at is v) = chosen s x (around_later o) at is v
  lift_later d u rest outer p (after {r = r} i w) = after_end i.end (both_later i.before) (holds_later i.holds) i.stands i.ends (lift_later d u rest outer r w)

  lift_inside : (d : Bool) (u : PlainStatement) (rest : PlainBlock) (part : Part) → ((p : Place) → IsTrue (enter varies d u part) → DisruptedBy varies d (next u rest) (inside part p))
      → (p : Place) → DisruptedBy varies (enter varies d u part) (part_of (shape_of u) part) p → DisruptedBy varies d (next u rest) (inside part p)
  lift_inside d u rest part outer p (already h) = outer p h
  lift_inside d u rest part outer p (chosen s x o at is v) = chosen s x (around_inside part o) at is v
  lift_inside d u rest part outer p (after {r = r} i w) = after_end i.end (both_inside part i.before) (holds_inside part i.holds) i.stands i.ends (lift_inside d u rest part outer r w)

  -- a disrupted return or discard in a body's first statement
  abbrev FirstEnd : Bool → PlainStatement → PlainBlock → Type 0
  FirstEnd d u rest = (r : Place) × (s : PlainStatement) × Holds here r × OccursAt (next u rest) r s × IsTrue (is_end s) × DisruptedBy varies d (next u rest) r

  -- one in a part of the statement, and one that is the statement itself
  abbrev Inside : Bool → PlainStatement → Type 0
  Inside d u = (part : Part) × EndPlace (enter varies d u part) (part_of (shape_of u) part)

  abbrev Own : Bool → PlainStatement → Type 0
  Own d u = IsTrue (is_end u) × IsTrue d

  first_end : (d : Bool) (u : PlainStatement) (rest : PlainBlock) → Own d u ⊎ Inside d u
      → ((part : Part) (p : Place) → IsTrue (enter varies d u part) → DisruptedBy varies d (next u rest) (inside part p)) → FirstEnd d u rest
  first_end d u rest (inl own) outer = (here, u, itself, refl, own.0, already own.1)
  first_end d u rest (inr i) outer =
      let e = i.1 in
      (inside i.0 e.0, e.1, in_part i.0, e.2, e.3, lift_inside d u rest i.0 (outer i.0) e.0 e.4)

  after_first : (d : Bool) (u : PlainStatement) (rest : PlainBlock) → (IsTrue (ends_at varies d u) → FirstEnd d u rest) → (p : Place) → IsTrue (d || ends_at varies d u) → DisruptedBy varies d (next u rest) (later p)
  after_first d u rest first p h =
      ⊎_elim (λ l. already l) (λ e. let x = first e in after_end x.1 earlier x.2 x.3 x.4 x.5) (or_cases d _ h)

  mutual
    end_in : (body : PlainBlock) (d : Bool) → IsTrue (ends_in varies d body) → EndPlace d body
    end_in stop d h = false_is_not h
    end_in (next u rest) d h =
        ⊎_elim
        (λ a. let x = first_end d u rest (end_at u d a) (λ part p. entered u d part p rest) in (x.0, x.1, x.3, x.4, x.5))
        (λ l. let x = end_in rest (d || ends_at varies d u) l in
        (later x.0, x.1, x.2, x.3, lift_later d u rest (after_first d u rest (λ a. first_end d u rest (end_at u d a) (λ part p. entered u d part p rest))) x.0 x.4))
        (or_cases (ends_at varies d u) _ h)

    end_at : (u : PlainStatement) (d : Bool) → IsTrue (ends_at varies d u) → Own d u ⊎ Inside d u
    end_at (block b) d h = inr (inner, end_in b d h)
    end_at (if_ x a r) d h =
        ⊎_elim (λ l. inr (accepting, end_in a (d || varies x) l)) (λ l. inr (rejecting, end_in r (d || varies x) l)) (or_cases _ _ h)
    end_at (switch x cases) d h = let k = case_end cases (d || varies x) h in inr (case_at k.0, k.1)
    end_at (loop b r o) d h =
        ⊎_elim (λ l. inr (loop_body, end_in b d l)) (λ l. inr (loop_continuing, end_in r (d || ends_in varies d b) l)) (or_cases _ _ h)
    end_at (return value) d h = inl (refl, h)
    end_at kill d h = inl (refl, h)
    end_at (emit first end) d h = false_is_not h
    end_at break d h = false_is_not h
    end_at continue d h = false_is_not h
    end_at (operation a) d h = false_is_not h
    end_at (call function arguments answer) d h = false_is_not h

    case_end : (cases : PlainCases) (d : Bool) → IsTrue (ends_in_cases varies d cases) → (k : ℕ) × EndPlace d (case_body cases k)
    case_end no_case d h = false_is_not h
    case_end (case value body falls rest) d h =
        ⊎_elim (λ l. (zero, end_in body d l)) (λ l. let k = case_end rest d l in (suc k.0, k.1)) (or_cases _ _ h)

    -- if a part begins disrupted, so is each place in it
    entered : (u : PlainStatement) (d : Bool) (part : Part) (p : Place) (rest : PlainBlock) → IsTrue (enter varies d u part) → DisruptedBy varies d (next u rest) (inside part p)
    entered (if_ x a r) d part p rest h = ⊎_elim (λ l. already l) (λ v. chosen (if_ x a r) x (around part) refl refl v) (or_cases d _ h)
    entered (switch x cases) d part p rest h = ⊎_elim (λ l. already l) (λ v. chosen (switch x cases) x (around part) refl refl v) (or_cases d _ h)
    entered (loop b r o) d inner p rest h = already h
    entered (loop b r o) d accepting p rest h = already h
    entered (loop b r o) d rejecting p rest h = already h
    entered (loop b r o) d (case_at k) p rest h = already h
    entered (loop b r o) d loop_body p rest h = already h
    entered (loop b r o) d loop_continuing p rest h =
        ⊎_elim (λ l. already l) (λ e. let x = end_in b d e in let q = top_of x.0 b x.1 x.2 in
        after_end x.1 (body_before_continuing q.1) (holds_inside loop_body q.2) x.2 x.3 (lift_inside d (loop b r o) rest loop_body (λ p l. already l) x.0 x.4)) (or_cases d _ h)
    entered (emit first end) d part p rest h = already h
    entered (block b) d part p rest h = already h
    entered break d part p rest h = already h
    entered continue d part p rest h = already h
    entered (return value) d part p rest h = already h
    entered kill d part p rest h = already h
    entered (operation a) d part p rest h = already h
    entered (call function arguments answer) d part p rest h = already h

  -- a loop's condition
  before_condition : (u : PlainStatement) (d : Bool) (rest : PlainBlock) → IsTrue (at_condition varies d u) → DisruptedBy varies d (next u rest) condition
  before_condition (loop b r o) d rest h = ⊎_elim (λ l. already l) (λ e. ⊎_elim in_turn in_continuing (or_cases _ _ e)) (or_cases d _ h)
    where
      in_turn : IsTrue (ends_in varies d b) → DisruptedBy varies d (next (loop b r o) rest) condition
      in_turn e = let x = end_in b d e in let q = top_of x.0 b x.1 x.2 in
          after_end x.1 (body_before_condition q.1) (holds_inside loop_body q.2) x.2 x.3 (lift_inside d (loop b r o) rest loop_body (λ p l. already l) x.0 x.4)

      in_continuing : IsTrue (ends_in varies (d || ends_in varies d b) r) → DisruptedBy varies d (next (loop b r o) rest) condition
      in_continuing e = let x = end_in r (d || ends_in varies d b) e in let q = top_of x.0 r x.1 x.2 in
          after_end x.1 (continuing_before_condition q.1) (holds_inside loop_continuing q.2) x.2 x.3 (lift_inside d (loop b r o) rest loop_continuing (λ p l. entered (loop b r o) d loop_continuing p rest l) x.0 x.4)
  before_condition _ d rest h = already h

  pub from_found : (p : Place) (d : Bool) (body : PlainBlock) → IsTrue (disrupted_at varies d p body) → DisruptedBy varies d body p
  from_found here d body h = already h
  from_found (later p) d stop h = already h
  from_found (later p) d (next u rest) h =
      lift_later d u rest (after_first d u rest (λ a. first_end d u rest (end_at u d a) (λ part q. entered u d part q rest))) p (from_found p _ rest h)
  from_found (inside part p) d stop h = already h
  from_found (inside part p) d (next u rest) h = lift_inside d u rest part (λ q e. entered u d part q rest e) p (from_found p _ (part_of (shape_of u) part) h)
  from_found condition d stop h = already h
  from_found condition d (next u rest) h = before_condition u d rest h

-- disruption for an equivalent predicate of non-uniform values
pub disrupted_as : {V W : ℕ → Type 0} {d : Bool} {body : PlainBlock} → ((h : ℕ) → V h → W h) → (p : Place) → Disrupted V d body p → Disrupted W d body p
disrupted_as same p (already h) = already h
disrupted_as same p (chosen s x o at is v) = chosen s x o at is (same x v)
disrupted_as same p (after {r = r} i u) = after i (disrupted_as same r u)
