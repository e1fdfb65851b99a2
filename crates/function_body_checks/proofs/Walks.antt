-- What the rest of a block or of the cases of a switch leads to in the whole.
use Rattle.std.proofs.Math.Seq.{take-append_seam}
use Rattle.std.proofs.Common.{◌≡◌, ℕ, zero, suc, ◌+◌, arith, Bool, List, [], ◌∷◌, ◌++◌, All, Option, length, take, refl, sym, ap, ◌∙◌, subst}
use Rattle.std.proofs.lemmas.List.{append-nil, append_assoc}
use Rattle.ir_blocks.specs.judged.Places.{Place, here, later, condition, statement, loop_condition}
use Rattle.ir_blocks.specs.judged.Places as at
use Rattle.ir_blocks.specs.judged.Plain.{PlainStatement, if_, switch, loop, PlainBlock, stop, next, PlainCases, no_case, case}
use Rattle.ir_blocks.specs.judged.Shapes.{Part, case_at, case_body, shape_of, part_of}
use Rattle.ir_items.specs.judged.Plain.{PlainFunction}
use Rattle.ir_kinds.specs.declared.values.SwitchValue.{SwitchValue}
use Rattle.ir_places.proofs.TrailLaws.{later_more, leads, placed_then}
use Rattle.ir_places.specs.Paths.{IsPlaced, later_by, place_of}
use Rattle.ir_places.specs.declared.trail.Trail.{Trail}
use Rattle.spec_statements.specs.found.Answered.{answered_in, answered_at, answered_in_cases, answered_before_case, answered_before_part}
use Rattle.spec_statements.specs.judged.Tables.{introduced, statement_checked}
use Rattle.spec_statements.specs.judged.Visible.{top_level, entering}
use Rattle.function_body_checks.specs.Carried.{AllFine, FineWithin, FineInCases, FaultAt, FaultFrom, FaultInPart, FaultInCase, FaultAtCondition, IfFault, IsFaultHere, Known}
use Rattle.function_body_checks.specs.declared.error.ScopeError.{ScopeError}

pub record Leads (f : PlainFunction) (asked : Bool) (scope answered : List ℕ) (whole : PlainBlock) (count : ℕ) (scope_now answered_now : List ℕ) (rest : PlainBlock) : Type 0 where
  pub fine : AllFine f asked scope_now answered_now rest → AllFine f asked scope answered whole
  pub grown : scope_now ++ top_level rest ≡ scope ++ top_level whole
  pub answers : answered_now ++ answered_in rest ≡ answered ++ answered_in whole
  pub faults : (e : ScopeError) (q : Place) → FaultAt f asked scope_now answered_now rest e q → FaultAt f asked scope answered whole e (later_by count q)

pub leads_first : (f : PlainFunction) (asked : Bool) (scope answered : List ℕ) (whole : PlainBlock) → Leads f asked scope answered whole 0 scope answered whole
leads_first f asked scope answered whole = record {
  fine = λ h. h;
  grown = refl;
  answers = refl;
  faults = λ e q h. h;
}

pub leads_more : (f : PlainFunction) (asked : Bool) (scope answered : List ℕ) (whole : PlainBlock) (count : ℕ) (scope_now answered_now scope_next answered_next : List ℕ) (s : PlainStatement) (all rest : PlainBlock)
    → Leads f asked scope answered whole count scope_now answered_now all → all ≡ next s rest → FineWithin f asked scope_now answered_now s
    → scope_next ≡ scope_now ++ introduced s → answered_next ≡ answered_now ++ answered_at s → Leads f asked scope answered whole (count + 1) scope_next answered_next rest
leads_more f asked scope answered whole count scope_now answered_now scope_next answered_next s all rest leads is one brought noted =
    let was : Leads f asked scope answered whole count scope_now answered_now (next s rest) = subst (Leads f asked scope answered whole count scope_now answered_now) is leads in
    let made : Leads f asked scope answered whole (count + 1) (scope_now ++ introduced s) (answered_now ++ answered_at s) rest = record {
      fine = λ more. was.fine (one, more);
      grown = append_assoc scope_now (introduced s) (top_level rest) ∙ was.grown;
      answers = append_assoc answered_now (answered_at s) (answered_in rest) ∙ was.answers;
      faults = λ e q more. subst (FaultAt f asked scope answered whole e) (later_more count q) (was.faults e (later q) more);
    } in
    subst (λ xs. Leads f asked scope answered whole (count + 1) xs answered_next rest) (sym brought)
    (subst (λ xs. Leads f asked scope answered whole (count + 1) (scope_now ++ introduced s) xs rest) (sym noted) made)

pub leads_fault : (t : Trail) (e : ScopeError) (f : PlainFunction) (asked : Bool) (scope answered : List ℕ) (whole : PlainBlock) (count : ℕ) (scope_now answered_now : List ℕ) (s : PlainStatement) (all rest : PlainBlock)
    → Leads f asked scope answered whole count scope_now answered_now all → all ≡ next s rest → IsPlaced t (FaultFrom f asked scope_now answered_now count s e) → IsPlaced t (FaultAt f asked scope answered whole e)
leads_fault t e f asked scope answered whole count scope_now answered_now s all rest leads is wrong =
    placed_then t (FaultFrom f asked scope_now answered_now count s e) (FaultAt f asked scope answered whole e) (λ p wrong.
    let was : Leads f asked scope answered whole count scope_now answered_now (next s rest) = subst (Leads f asked scope answered whole count scope_now answered_now) is leads in
    subst (FaultAt f asked scope answered whole e) (sym wrong.1) (was.faults e wrong.0 (wrong.2 rest))) wrong

pub leads_last : (f : PlainFunction) (asked : Bool) (scope answered : List ℕ) (whole : PlainBlock) (count : ℕ) (scope_now answered_now : List ℕ) (all : PlainBlock)
    → Leads f asked scope answered whole count scope_now answered_now all → all ≡ stop → AllFine f asked scope answered whole × (scope_now ≡ scope ++ top_level whole) × (answered_now ≡ answered ++ answered_in whole)
leads_last f asked scope answered whole count scope_now answered_now all leads is =
    let was : Leads f asked scope answered whole count scope_now answered_now stop = subst (Leads f asked scope answered whole count scope_now answered_now) is leads in
    (was.fine tt, sym (append-nil scope_now) ∙ was.grown, sym (append-nil answered_now) ∙ was.answers)

-- ---- cases, which leave the scope as it was

abbrev pub FaultOfCase : PlainFunction → (asked : Bool) → (scope answered : List ℕ) → PlainCases → (index : ℕ) → ScopeError → Place → Type 0
FaultOfCase f asked scope answered cases k e q = FaultAt f asked scope (answered ++ answered_before_case cases k) (case_body cases k) e q

pub record LeadsCases (f : PlainFunction) (asked : Bool) (scope answered : List ℕ) (whole : PlainCases) (count : ℕ) (answered_now : List ℕ) (rest : PlainCases) : Type 0 where
  pub fine : FineInCases f asked scope answered_now rest → FineInCases f asked scope answered whole
  pub answers : answered_now ++ answered_in_cases rest ≡ answered ++ answered_in_cases whole
  pub faults : (e : ScopeError) (k : ℕ) (q : Place) → FaultAt f asked scope (answered_now ++ answered_before_case rest k) (case_body rest k) e q → FaultOfCase f asked scope answered whole (count + k) e q

pub cases_first : (f : PlainFunction) (asked : Bool) (scope answered : List ℕ) (whole : PlainCases) → LeadsCases f asked scope answered whole 0 answered whole
cases_first f asked scope answered whole = record {
  fine = λ h. h;
  answers = refl;
  faults = λ e k q h. subst (λ n. FaultOfCase f asked scope answered whole n e q) (let same : k ≡ 0 + k = omega arith in same) h;
}

pub cases_more : (f : PlainFunction) (asked : Bool) (scope answered : List ℕ) (whole : PlainCases) (count : ℕ) (answered_now answered_next : List ℕ) (value : SwitchValue) (body : PlainBlock) (falls : Bool) (all rest : PlainCases)
    → LeadsCases f asked scope answered whole count answered_now all → all ≡ case value body falls rest → AllFine f asked scope answered_now body
    → answered_next ≡ answered_now ++ answered_in body → LeadsCases f asked scope answered whole (count + 1) answered_next rest
cases_more f asked scope answered whole count answered_now answered_next value body falls all rest leads is one noted =
    let was : LeadsCases f asked scope answered whole count answered_now (case value body falls rest) = subst (LeadsCases f asked scope answered whole count answered_now) is leads in
    let made : LeadsCases f asked scope answered whole (count + 1) (answered_now ++ answered_in body) rest = record {
      fine = λ more. was.fine (one, more);
      answers = append_assoc answered_now (answered_in body) (answered_in_cases rest) ∙ was.answers;
      faults = λ e k q more.
          subst (λ n. FaultOfCase f asked scope answered whole n e q) (let same : count + suc k ≡ (count + 1) + k = omega arith in same)
          (was.faults e (suc k) q (subst (λ xs. FaultAt f asked scope xs (case_body rest k) e q) (append_assoc answered_now (answered_in body) (answered_before_case rest k)) more));
    } in
    subst (λ xs. LeadsCases f asked scope answered whole (count + 1) xs rest) (sym noted) made

pub cases_fault : (t : Trail) (e : ScopeError) (f : PlainFunction) (asked : Bool) (scope answered : List ℕ) (index : ℕ) (whole : PlainCases) (count : ℕ) (answered_now : List ℕ) (value : SwitchValue) (body : PlainBlock) (falls : Bool) (all rest : PlainCases)
    → LeadsCases f asked scope answered whole count answered_now all → all ≡ case value body falls rest → IsPlaced t (FaultInPart f asked scope answered_now index (case_at count) body e)
    → IsPlaced t (FaultInCase f asked scope answered index whole e)
cases_fault t e f asked scope answered index whole count answered_now value body falls all rest leads is wrong =
    placed_then t (FaultInPart f asked scope answered_now index (case_at count) body e) (FaultInCase f asked scope answered index whole e) (λ p wrong.
    let was : LeadsCases f asked scope answered whole count answered_now (case value body falls rest) = subst (LeadsCases f asked scope answered whole count answered_now) is leads in
    let there : FaultOfCase f asked scope answered whole (count + 0) e wrong.0 =
    was.faults e zero wrong.0 (subst (λ xs. FaultAt f asked scope xs body e wrong.0) (sym (append-nil answered_now)) wrong.2) in
    (count, (wrong.0, wrong.1, subst (λ n. FaultOfCase f asked scope answered whole n e wrong.0) (let same : count + 0 ≡ count = omega arith in same) there))) wrong

pub cases_last : (f : PlainFunction) (asked : Bool) (scope answered : List ℕ) (whole : PlainCases) (count : ℕ) (answered_now : List ℕ) (all : PlainCases)
    → LeadsCases f asked scope answered whole count answered_now all → all ≡ no_case → FineInCases f asked scope answered whole × (answered_now ≡ answered ++ answered_in_cases whole)
cases_last f asked scope answered whole count answered_now all leads is =
    let was : LeadsCases f asked scope answered whole count answered_now no_case = subst (LeadsCases f asked scope answered whole count answered_now) is leads in
    (was.fine tt, sym (append-nil answered_now) ∙ was.answers)

-- ---- choices

pub if_fine : (f : PlainFunction) (asked : Bool) (scope answered scope_then answered_then : List ℕ) (s : PlainStatement) (test : ℕ) (accept reject : PlainBlock) → s ≡ if_ test accept reject
    → All (Known f scope) (statement_checked s) → AllFine f asked scope answered accept → scope_then ≡ scope → answered_then ≡ answered ++ answered_in accept → AllFine f asked scope_then answered_then reject
    → FineWithin f asked scope answered s
if_fine f asked scope answered scope_then answered_then s test accept reject is used first same noted second =
    let at : All (Known f scope) (test ∷ []) = subst (λ x. All (Known f scope) (statement_checked x)) is used in
    let behind : AllFine f asked scope (answered ++ answered_in accept) reject = subst (λ xs. AllFine f asked xs (answered ++ answered_in accept) reject) same (subst (λ xs. AllFine f asked scope_then xs reject) noted second) in
    subst (FineWithin f asked scope answered) (sym is) (at, (first, behind))

pub if_answered : (answered answered_then answered_last : List ℕ) (s : PlainStatement) (test : ℕ) (accept reject : PlainBlock) → s ≡ if_ test accept reject
    → answered_then ≡ answered ++ answered_in accept → answered_last ≡ answered_then ++ answered_in reject → answered_last ≡ answered ++ answered_at s
if_answered answered answered_then answered_last s test accept reject is first second =
    subst (λ x. answered_last ≡ answered ++ answered_at x) (sym is) (second ∙ (ap (λ xs. xs ++ answered_in reject) first ∙ append_assoc answered (answered_in accept) (answered_in reject)))

pub switch_fine : (f : PlainFunction) (asked : Bool) (scope answered : List ℕ) (s : PlainStatement) (selector : ℕ) (cases : PlainCases) → s ≡ switch selector cases
    → All (Known f scope) (statement_checked s) → FineInCases f asked scope answered cases → FineWithin f asked scope answered s
switch_fine f asked scope answered s selector cases is used each =
    let at : All (Known f scope) (selector ∷ []) = subst (λ x. All (Known f scope) (statement_checked x)) is used in
    subst (FineWithin f asked scope answered) (sym is) (at, each)

-- ---- loops

pub loop_scope : (scope scope_body scope_last scope_cut : List ℕ) (count : ℕ) (s : PlainStatement) (body continuing : PlainBlock) (break_if : Option ℕ) → s ≡ loop body continuing break_if
    → scope_body ≡ scope ++ top_level body → scope_last ≡ scope_body ++ top_level continuing → count ≡ length scope → scope_cut ≡ take count scope_last → scope_cut ≡ scope ++ introduced s
loop_scope scope scope_body scope_last scope_cut count s body continuing break_if is first second many cut =
    let whole : scope_last ≡ scope ++ (top_level body ++ top_level continuing) = second ∙ (ap (λ xs. xs ++ top_level continuing) first ∙ append_assoc scope (top_level body) (top_level continuing)) in
    let back : scope_cut ≡ scope = cut ∙ (ap (λ xs. take count xs) whole ∙ (ap (λ n. take n (scope ++ (top_level body ++ top_level continuing))) many ∙ take-append_seam scope (top_level body ++ top_level continuing))) in
    subst (λ x. scope_cut ≡ scope ++ introduced x) (sym is) (back ∙ sym (append-nil scope))

pub loop_answered : (answered answered_body answered_last : List ℕ) (s : PlainStatement) (body continuing : PlainBlock) (break_if : Option ℕ) → s ≡ loop body continuing break_if
    → answered_body ≡ answered ++ answered_in body → answered_last ≡ answered_body ++ answered_in continuing → answered_last ≡ answered ++ answered_at s
loop_answered answered answered_body answered_last s body continuing break_if is first second =
    subst (λ x. answered_last ≡ answered ++ answered_at x) (sym is) (second ∙ (ap (λ xs. xs ++ answered_in continuing) first ∙ append_assoc answered (answered_in body) (answered_in continuing)))

-- ---- what is wrong with a statement

pub here_wrong : (t : Trail) (e : ScopeError) (f : PlainFunction) (asked : Bool) (scope answered : List ℕ) (index : ℕ) (s : PlainStatement) → place_of t ≡ later_by index here
    → IfFault e (IsFaultHere f asked (statement s) scope answered) → IsPlaced t (FaultFrom f asked scope answered index s e)
here_wrong t e f asked scope answered index s is wrong =
    (later_by index here, leads t (later_by index here) is, (here, refl, λ rest. wrong))

pub condition_wrong : (t : Trail) (e : ScopeError) (f : PlainFunction) (asked : Bool) (scope answered : List ℕ) (index : ℕ) (break_if : Option ℕ) → place_of t ≡ later_by index condition
    → IfFault e (IsFaultHere f asked (loop_condition break_if) scope answered) → IsPlaced t (FaultAtCondition f asked scope answered index break_if e)
condition_wrong t e f asked scope answered index break_if is wrong =
    (later_by index condition, leads t (later_by index condition) is, (refl, wrong))

pub part_wrong : (t : Trail) (e : ScopeError) (f : PlainFunction) (asked : Bool) (scope answered scope_in answered_in_it : List ℕ) (index : ℕ) (s : PlainStatement) (part : Part) (b : PlainBlock)
    → b ≡ part_of (shape_of s) part → scope_in ≡ entering scope s part → answered_in_it ≡ answered ++ answered_before_part s part
    → IsPlaced t (FaultInPart f asked scope_in answered_in_it index part b e) → IsPlaced t (FaultFrom f asked scope answered index s e)
part_wrong t e f asked scope answered scope_in answered_in_it index s part b is entered said wrong =
    placed_then t (FaultInPart f asked scope_in answered_in_it index part b e) (FaultFrom f asked scope answered index s e) (λ p wrong. (
      at.inside part wrong.0,
      wrong.1,
      λ rest.
          subst (λ x. FaultAt f asked (entering scope s part) (answered ++ answered_before_part s part) x e wrong.0) is
          (subst (λ xs. FaultAt f asked (entering scope s part) xs b e wrong.0) said (subst (λ xs. FaultAt f asked xs answered_in_it b e wrong.0) entered wrong.2)),
    )) wrong

pub switch_wrong : (t : Trail) (e : ScopeError) (f : PlainFunction) (asked : Bool) (scope answered : List ℕ) (index : ℕ) (s : PlainStatement) (selector : ℕ) (cases : PlainCases) → s ≡ switch selector cases
    → IsPlaced t (FaultInCase f asked scope answered index cases e) → IsPlaced t (FaultFrom f asked scope answered index s e)
switch_wrong t e f asked scope answered index s selector cases is wrong =
    placed_then t (FaultInCase f asked scope answered index cases e) (FaultFrom f asked scope answered index s e) (λ p wrong.
    subst (λ x. FaultFrom f asked scope answered index x e p) (sym is)
    (at.inside (case_at wrong.0) wrong.1.0, wrong.1.1, λ rest. wrong.1.2)) wrong

pub loop_wrong : (t : Trail) (e : ScopeError) (f : PlainFunction) (asked : Bool) (scope answered scope_body scope_end answered_body answered_end : List ℕ) (index : ℕ) (s : PlainStatement) (body continuing : PlainBlock) (break_if : Option ℕ)
    → s ≡ loop body continuing break_if → scope_body ≡ scope ++ top_level body → scope_end ≡ scope_body ++ top_level continuing → answered_body ≡ answered ++ answered_in body
    → answered_end ≡ answered_body ++ answered_in continuing → IsPlaced t (FaultAtCondition f asked scope_end answered_end index break_if e) → IsPlaced t (FaultFrom f asked scope answered index s e)
loop_wrong t e f asked scope answered scope_body scope_end answered_body answered_end index s body continuing break_if is in_body at_end said_body said_end wrong =
    placed_then t (FaultAtCondition f asked scope_end answered_end index break_if e) (FaultFrom f asked scope answered index s e) (λ p wrong.
    let there : scope_end ≡ (scope ++ top_level body) ++ top_level continuing = at_end ∙ ap (λ xs. xs ++ top_level continuing) in_body in
    let said : answered_end ≡ answered ++ (answered_in body ++ answered_in continuing) = said_end ∙ (ap (λ xs. xs ++ answered_in continuing) said_body ∙ append_assoc answered (answered_in body) (answered_in continuing)) in
    subst (λ x. FaultFrom f asked scope answered index x e p) (sym is) (
      condition,
      wrong.0,
      λ rest.
          subst (λ xs. IfFault e (IsFaultHere f asked (loop_condition break_if) ((scope ++ top_level body) ++ top_level continuing) xs)) said
          (subst (λ xs. IfFault e (IsFaultHere f asked (loop_condition break_if) xs answered_end)) there wrong.1),
    )) wrong
