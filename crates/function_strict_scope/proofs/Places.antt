-- What a walk requires along a body is what is required at each place, and what it finds wrong is wrong at one.
use Rattle.std.proofs.Common.{◌≡◌, ℕ, zero, suc, ◌+◌, ◌-◌, ◌<◌, ◌≤◌, inl, inr, List, [], ◌++◌, All, Option, Some, None, Contains, slice_get, refl, sym, ap, ◌∙◌, subst, arith, ⊎_elim}
use Rattle.std.proofs.lemmas.List.Elements.{All-nil, All-contains}
use Rattle.typing_errors.specs.declared.error.FunctionError.{FunctionError}
use Rattle.typing_errors.specs.declared.error.FunctionError.TheVariants as error
use Rattle.typing_errors.specs.declared.calls.CallError.{CallError}
use Rattle.typing_errors.specs.declared.calls.CallError.TheVariants as call_error
use Rattle.ir_blocks.specs.judged.Places.{Place, here, later, inside, condition, Spot, nothing, statement, loop_condition, condition_of, spot_at}
use Rattle.ir_blocks.specs.judged.Plain.{ray_query, ballot, PlainStatement, emit, block, if_, switch, loop, break, continue, return, kill, operation, call, PlainBlock, stop, next, PlainCases, no_case, case}
use Rattle.ir_blocks.specs.judged.Shapes.{Part, inner, accepting, rejecting, case_at, loop_body, loop_continuing, shape_of, part_of, case_body}
use Rattle.ir_blocks.specs.declared.operations.RayQueryFunction.TheVariants as ray
use Rattle.ir_items.specs.judged.Plain.{PlainFunction}
use Rattle.ir_places.proofs.TrailLaws.{placed_then}
use Rattle.ir_places.specs.Paths.{IsPlaced}
use Rattle.ir_places.specs.declared.trail.Trail.{Trail}
use Rattle.spec_expressions.specs.judged.Kinds.{operation_row}
use Rattle.spec_statements.proofs.StrictLaws.{strict_by_walk_lem}
use Rattle.spec_statements.specs.judged.Scope.{InScope, ScopeOK}
use Rattle.spec_statements.specs.judged.Strict.{InStrictScope, StrictOK, needed_at, statement_needed}
use Rattle.spec_statements.specs.found.SureLevel.{entering_by, at_condition_by, visible_by, sure_level}
use Rattle.spec_statements.specs.judged.Tables.{introduced, introduced_at}
use Rattle.function_body_checks.proofs.FaultLaws.{call_at}
use Rattle.function_body_checks.specs.Carried.{Known}
use Rattle.function_strict_scope.proofs.Errors.{if_fault_then}
use Rattle.function_strict_scope.proofs.Ranges.{operand_known, early_at, again_in_range, again_in_result}
use Rattle.function_strict_scope.specs.Faults.{IsStrictFaultAt, IsStrictCallError, IsOperandOfEmitted, IsOfOtherKind, of_proceed, of_ballot}
use Rattle.function_strict_scope.specs.Tables.{proceeds_by, ballots_by}
use Rattle.function_strict_scope.specs.Walked.{AnswerKindOK, EachKnown, IsAgainIn, IsEarlyOperand, IsOtherAnswer, Meets, AllMeet, MeetWithin, MeetInCases, FaultAt, IfFault, IsFaultHere, emitted_by, emitted_at}
use Rattle.function_strict_scope.specs.declared.error.StrictError.{StrictError}

module _ (f : PlainFunction) where
  -- ---- met along a body, so met at each place

  pub record MeetsAt (spot : Spot) (sure : List ℕ) : Type 0 where
    pub used : All (Known f sure) (needed_at spot)
    pub emitted : EachKnown f sure (emitted_at spot)
    pub kind : (s : PlainStatement) → spot ≡ statement s → AnswerKindOK f s

  no_answer : {A : Type 0} (e : ℕ) → None ≡ Some e → A
  no_answer e is = let x = is in absurd (cc)

  none_answers : (s : PlainStatement) → proceeds_by s ≡ None → ballots_by s ≡ None → AnswerKindOK f s
  none_answers s proceeds ballots = record { proceeds = λ e is. no_answer e (sym proceeds ∙ is); ballots = λ e is. no_answer e (sym ballots ∙ is) }

  same_statement : (s u : PlainStatement) → statement s ≡ statement u → s ≡ u
  same_statement s u is = let x = is in cc

  of_meets : (s : PlainStatement) (sure : List ℕ) → Meets f s sure → MeetsAt (statement s) sure
  of_meets s sure h = record { used = h.used; emitted = h.emitted; kind = λ u is. subst (AnswerKindOK f) (same_statement s u is) h.kind }

  quiet : (s : PlainStatement) (sure : List ℕ) → All (Known f sure) (statement_needed s) → emitted_by s ≡ [] → proceeds_by s ≡ None → ballots_by s ≡ None → MeetsAt (statement s) sure
  quiet s sure used none proceeds ballots =
      of_meets s sure (record { used = used; emitted = subst (EachKnown f sure) (sym none) tt; kind = none_answers s proceeds ballots })

  nothing_meets : (sure : List ℕ) → MeetsAt nothing sure
  nothing_meets sure = record { used = All-nil (Known f sure); emitted = tt; kind = λ s is. (let x = is in absurd (cc)) }

  condition_meets_if : (sure : List ℕ) (break_if : Option ℕ) → All (Known f sure) (needed_at (loop_condition break_if)) → MeetsAt (loop_condition break_if) sure
  condition_meets_if sure break_if used = record { used = used; emitted = tt; kind = λ s is. (let x = is in absurd (cc)) }

  own_meets : (sure : List ℕ) (s : PlainStatement) → MeetWithin f sure s → MeetsAt (statement s) sure
  own_meets sure (emit first end) h = of_meets (emit first end) sure h
  own_meets sure (block b) h = quiet (block b) sure (All-nil (Known f sure)) refl refl refl
  own_meets sure (if_ test accept reject) h = quiet (if_ test accept reject) sure h.0 refl refl refl
  own_meets sure (switch selector cases) h = quiet (switch selector cases) sure h.0 refl refl refl
  own_meets sure (loop body continuing break_if) h = quiet (loop body continuing break_if) sure (All-nil (Known f sure)) refl refl refl
  own_meets sure break h = of_meets break sure h
  own_meets sure continue h = of_meets continue sure h
  own_meets sure (return value) h = of_meets (return value) sure h
  own_meets sure kill h = of_meets kill sure h
  own_meets sure (operation a) h = of_meets (operation a) sure h
  own_meets sure (call function arguments answer) h = of_meets (call function arguments answer) sure h

  case_meets : (sure : List ℕ) (cs : PlainCases) (k : ℕ) → MeetInCases f sure cs → AllMeet f sure (case_body cs k)
  case_meets sure no_case k h = tt
  case_meets sure (case value body falls rest) zero h = h.0
  case_meets sure (case value body falls rest) (suc k) h = case_meets sure rest k h.1

  part_meets : (sure : List ℕ) (s : PlainStatement) (part : Part) → MeetWithin f sure s → AllMeet f (entering_by sure_level sure s part) (part_of (shape_of s) part)
  part_meets sure (emit first end) part h = tt
  part_meets sure (block b) inner h = h
  part_meets sure (block b) _ h = tt
  part_meets sure (if_ test accept reject) accepting h = h.1.0
  part_meets sure (if_ test accept reject) rejecting h = h.1.1
  part_meets sure (if_ test accept reject) _ h = tt
  part_meets sure (switch selector cases) (case_at k) h = case_meets sure cases k h.1
  part_meets sure (switch selector cases) _ h = tt
  part_meets sure (loop body continuing break_if) loop_body h = h.0
  part_meets sure (loop body continuing break_if) loop_continuing h = h.1.0
  part_meets sure (loop body continuing break_if) _ h = tt
  part_meets sure break part h = tt
  part_meets sure continue part h = tt
  part_meets sure (return value) part h = tt
  part_meets sure kill part h = tt
  part_meets sure (operation a) part h = tt
  part_meets sure (call function arguments answer) part h = tt

  no_condition : (sure : List ℕ) → MeetsAt (loop_condition None) sure
  no_condition sure = condition_meets_if sure None (All-nil (Known f sure))

  condition_meets : (sure : List ℕ) (s : PlainStatement) → MeetWithin f sure s → MeetsAt (loop_condition (condition_of (shape_of s))) (at_condition_by sure_level sure s)
  condition_meets sure (emit first end) h = no_condition _
  condition_meets sure (block b) h = no_condition _
  condition_meets sure (if_ test accept reject) h = no_condition _
  condition_meets sure (switch selector cases) h = no_condition _
  condition_meets sure (loop body continuing break_if) h = condition_meets_if _ break_if h.1.1
  condition_meets sure break h = no_condition _
  condition_meets sure continue h = no_condition _
  condition_meets sure (return value) h = no_condition _
  condition_meets sure kill h = no_condition _
  condition_meets sure (operation a) h = no_condition _
  condition_meets sure (call function arguments answer) h = no_condition _

  meets_at : (p : Place) (sure : List ℕ) (b : PlainBlock) → AllMeet f sure b → MeetsAt (spot_at p b) (visible_by sure_level sure p b)
  meets_at here sure stop h = nothing_meets sure
  meets_at here sure (next s rest) h = own_meets sure s h.0
  meets_at (later p) sure stop h = nothing_meets sure
  meets_at (later p) sure (next s rest) h = meets_at p (sure ++ introduced s) rest h.1
  meets_at (inside part p) sure stop h = nothing_meets sure
  meets_at (inside part p) sure (next s rest) h = meets_at p (entering_by sure_level sure s part) (part_of (shape_of s) part) (part_meets sure s part h.0)
  meets_at condition sure stop h = nothing_meets sure
  meets_at condition sure (next s rest) h = condition_meets sure s h.0

  at_end : (first end e : ℕ) → first ≤ e → e < end → e < first + (end - first)
  at_end first end e ge lt = omega (arith, ge, lt)

  pub strict_met : AllMeet f [] f.body → StrictOK f
  strict_met met = record {
    used = λ p o needs. (strict_by_walk_lem f p o).1 (All-contains (Known f (visible_by sure_level [] p f.body)) (needed_at (spot_at p f.body)) o (meets_at p [] f.body met).used needs);
    emitted = λ p first end stands e ge lt x at o held.
        let each : EachKnown f (visible_by sure_level [] p f.body) (emitted_at (statement (emit first end))) = subst (λ spot. EachKnown f (visible_by sure_level [] p f.body) (emitted_at spot)) stands (meets_at p [] f.body met).emitted in
        ⊎_elim (λ before. inl before) (λ known. inr ((strict_by_walk_lem f p o).1 known)) (operand_known f (end - first) first (visible_by sure_level [] p f.body) each e ge (at_end first end e ge lt) x at o held);
    proceeds = λ p query result stands. ((meets_at p [] f.body met).kind (operation (ray_query query (ray.Proceed result))) stands).proceeds result refl;
    ballots = λ p result predicate stands. ((meets_at p [] f.body met).kind (operation (ballot result predicate)) stands).ballots result refl;
  }

  -- ---- faults

  proceeds_at : (s : PlainStatement) (e : ℕ) → proceeds_by s ≡ Some e → (query : ℕ) × (s ≡ operation (ray_query query (ray.Proceed e)))
  proceeds_at (operation (ray_query query (ray.Proceed result))) e is = (query, ap (λ x. operation (ray_query query (ray.Proceed x))) (let y : result ≡ e = (let x = is in cc) in y))
  proceeds_at _ e is = no_answer e is

  ballots_at : (s : PlainStatement) (e : ℕ) → ballots_by s ≡ Some e → (predicate : Option ℕ) × (s ≡ operation (ballot e predicate))
  ballots_at (operation (ballot result predicate)) e is = (predicate, ap (λ x. operation (ballot x predicate)) (let y : result ≡ e = (let x = is in cc) in y))
  ballots_at _ e is = no_answer e is

  module _ (scope : ScopeOK f) where
    abbrev carried : Place → List ℕ
    carried p = visible_by sure_level [] p f.body

    not_in_scope : (p : Place) (o : ℕ) → ¬ Known f (carried p) o → ¬ InStrictScope f p o
    not_in_scope p o unknown sure = unknown ((strict_by_walk_lem f p o).0 sure)

    in_scope : (p : Place) (o : ℕ) → Contains (carried p) o → InScope f p o
    in_scope p o held = ⊎_elim (λ pre. inl pre) (λ brought. inr (brought.0, brought.1, brought.2)) ((strict_by_walk_lem f p o).1 (inr held))

    never_again : (p : Place) (x : ℕ) → Contains (introduced_at (spot_at p f.body)) x × Contains (carried p) x → ⊥
    never_again p x both = scope.fresh p x both.0 (in_scope p x both.1)

    again_at : (spot : Spot) (sure : List ℕ) (x : ℕ) → IsAgainIn sure (introduced_at spot) x → Contains (introduced_at spot) x × Contains sure x
    again_at nothing sure x h = absurd h
    again_at (loop_condition break_if) sure x h = absurd h
    again_at (statement (emit first end)) sure x h = again_in_range (end - first) first sure x h
    again_at (statement (block b)) sure x h = absurd h
    again_at (statement (if_ test accept reject)) sure x h = absurd h
    again_at (statement (switch selector cases)) sure x h = absurd h
    again_at (statement (loop body continuing break_if)) sure x h = absurd h
    again_at (statement break) sure x h = absurd h
    again_at (statement continue) sure x h = absurd h
    again_at (statement (return value)) sure x h = absurd h
    again_at (statement kill) sure x h = absurd h
    again_at (statement (operation a)) sure x h = again_in_result (operation_row a).result sure x h
    again_at (statement (call function arguments answer)) sure x h = again_in_result answer sure x h

    range_end : (first end e : ℕ) → first ≤ e → e < first + (end - first) → e < end
    range_end first end e ge lt = omega (arith, ge, lt)

    early_reported : (p : Place) (o : ℕ) (spot : Spot) → spot_at p f.body ≡ spot → IsEarlyOperand f (carried p) (emitted_at spot) o → IsOperandOfEmitted f p o
    early_reported p o (statement (emit first end)) is h =
        let found = early_at f (end - first) first (carried p) o h in
        record {
          first = first;
          end = end;
          stands = is;
          expression = found.expression;
          from = found.from;
          below = range_end first end found.expression found.from found.below;
          form = found.form;
          is = found.is;
          operand = found.operand;
          later = found.later;
          unknown = not_in_scope p o found.unknown;
        }
    early_reported p o nothing is h = absurd h
    early_reported p o (loop_condition break_if) is h = absurd h
    early_reported p o (statement _) is h = absurd h

    other_told : (p : Place) (e : ℕ) (spot : Spot) → spot_at p f.body ≡ spot → IsOtherAnswer f spot e → IsOfOtherKind f p e
    other_told p e nothing is h = absurd h
    other_told p e (loop_condition break_if) is h = absurd h
    other_told p e (statement s) is (inl proceed) = let at = proceeds_at s e proceed.0 in of_proceed at.0 (is ∙ ap statement at.1) proceed.1
    other_told p e (statement s) is (inr ballot_) = let at = ballots_at s e ballot_.0 in of_ballot at.0 (is ∙ ap statement at.1) ballot_.1

    call_told : (p : Place) (g : ℕ) (e : CallError) → IsFaultHere f (spot_at p f.body) (carried p) (error.InvalidCall g e) → IsStrictCallError f p g e
    call_told p g (call_error.Argument place source) h =
        let found = call_at (spot_at p f.body) g h.0 in (
          h.1,
          record {
            arguments = found.arguments;
            answer = found.answer;
            stands = found.is;
            passed = h.2.0;
            is = subst (λ spot. slice_get (needed_at spot) place ≡ Some h.2.0) found.is h.2.1;
            unknown = not_in_scope p h.2.0 h.2.2;
          },
        )
    call_told p g _ h = absurd h

    fault_reported : (p : Place) (e : FunctionError) → IsFaultHere f (spot_at p f.body) (carried p) e → IsStrictFaultAt f e p
    fault_reported p (error.Expression o source) h =
        (h.0, ⊎_elim (λ own. inl (record { other = own.0; used = own.1.0; unknown = not_in_scope p o own.1.1 })) (λ early. inr (early_reported p o (spot_at p f.body) refl early)) h.1)
    fault_reported p (error.ExpressionAlreadyInScope x) h = absurd (never_again p x (again_at (spot_at p f.body) (carried p) x h))
    fault_reported p (error.InvalidCall g e) h = call_told p g e h
    fault_reported p (error.StrictResultMismatch e) h = other_told p e (spot_at p f.body) refl h
    fault_reported p _ h = absurd h

    pub reported_in_body : (t : Trail) (e : StrictError) (sure : List ℕ) → sure ≡ [] → IsPlaced t (FaultAt f sure f.body e) → IsPlaced t (λ p. IfFault e (λ x. IsStrictFaultAt f x p))
    reported_in_body t e sure none wrong =
        placed_then t (FaultAt f sure f.body e) (λ p. IfFault e (λ x. IsStrictFaultAt f x p))
        (λ p there. if_fault_then e (IsFaultHere f (spot_at p f.body) (carried p)) (λ x. IsStrictFaultAt f x p) (fault_reported p) (subst (λ xs. FaultAt f xs f.body e p) none there)) wrong
