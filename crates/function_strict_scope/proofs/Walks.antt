-- What the rest of a block or of the cases of a switch leads to in the whole.
use Rattle.std.proofs.Math.Seq.{take-append_seam}
use Rattle.std.proofs.Common.{◌≡◌, ℕ, zero, suc, ◌+◌, arith, Bool, true, false, List, [], ◌∷◌, ◌++◌, ◌||◌, if◌then◌else◌, All, Option, Some, None, length, take, refl, sym, ap, ◌∙◌, subst}
use Rattle.std.proofs.lemmas.List.{append-nil, append_assoc}
use Rattle.std.specs.Prelude.{is_some}
use Rattle.ir_blocks.specs.judged.Places.{Place, here, later, condition, statement, loop_condition}
use Rattle.ir_blocks.specs.judged.Places as at
use Rattle.ir_blocks.specs.judged.Plain.{PlainStatement, if_, switch, loop, PlainBlock, stop, next, PlainCases, no_case, case}
use Rattle.ir_blocks.specs.judged.Shapes.{Part, case_at, case_body, shape_of, part_of}
use Rattle.ir_items.specs.judged.Plain.{PlainFunction}
use Rattle.ir_kinds.specs.declared.values.SwitchValue.{SwitchValue}
use Rattle.ir_places.proofs.TrailLaws.{later_more, leads, placed_then}
use Rattle.ir_places.specs.Paths.{IsPlaced, later_by, place_of}
use Rattle.ir_places.specs.declared.trail.Trail.{Trail}
use Rattle.spec_statements.specs.judged.Strict.{statement_needed, needed_at}
use Rattle.spec_statements.specs.found.SureLevel.{entering_by, holds_continue, holds_continue_in, holds_continue_in_cases, unless, sure_level}
use Rattle.spec_statements.specs.judged.Tables.{introduced}
use Rattle.spec_statements.specs.judged.Visible.{top_level}
use Rattle.function_body_checks.specs.Carried.{Known}
use Rattle.function_strict_scope.specs.Walked.{AllMeet, MeetWithin, MeetInCases, FaultAt, FaultFrom, FaultInPart, FaultInCase, FaultAtCondition, IfFault, IsFaultHere, left_in, first_left, cut_to}
use Rattle.function_strict_scope.specs.declared.error.StrictError.{StrictError}

-- ---- what is left

left_holds : (sure : List ℕ) (b : PlainBlock) → is_some (left_in sure b) ≡ holds_continue_in b
left_holds sure stop = refl
left_holds sure (next s rest) = by_first (holds_continue s) (length (sure ++ introduced s)) (left_in (sure ++ introduced s) rest) (holds_continue_in rest) (left_holds (sure ++ introduced s) rest)
  where
    by_first : (b : Bool) (n : ℕ) (o : Option ℕ) (r : Bool) → is_some o ≡ r → is_some (if b then Some n else o) ≡ (b || r)
    by_first true n o r is = refl
    by_first false n o r is = is

pub left_told : (sure : List ℕ) (b : PlainBlock) (left : Option ℕ) → left ≡ left_in sure b → is_some left ≡ holds_continue_in b
left_told sure b left is = ap is_some is ∙ left_holds sure b

cut_by : (now sure behind more left_over : List ℕ) (o : Option ℕ) (b : Bool) → now ++ more ≡ sure ++ (behind ++ more) → now ≡ sure ++ behind → cut_to o (now ++ more) ≡ now ++ left_over
    → cut_to (if b then Some (length now) else o) (sure ++ (behind ++ more)) ≡ sure ++ (behind ++ unless b left_over)
cut_by now sure behind more left_over o true seam is rest =
    ap (take (length now)) (sym seam) ∙ (take-append_seam now more ∙ (is ∙ ap (λ xs. sure ++ xs) (sym (append-nil behind))))
cut_by now sure behind more left_over o false seam is rest =
    ap (cut_to o) (sym seam) ∙ (rest ∙ (ap (λ xs. xs ++ left_over) is ∙ append_assoc sure behind left_over))

cut_left : (sure : List ℕ) (b : PlainBlock) → cut_to (left_in sure b) (sure ++ top_level b) ≡ sure ++ sure_level b
cut_left sure stop = refl
cut_left sure (next s rest) =
    cut_by (sure ++ introduced s) sure (introduced s) (top_level rest) (sure_level rest) (left_in (sure ++ introduced s) rest) (holds_continue s) (append_assoc sure (introduced s) (top_level rest)) refl (cut_left (sure ++ introduced s) rest)

first_more : (now : Option ℕ) (b : Bool) (n : ℕ) (more : Option ℕ) → first_left (first_left now (if b then Some n else None)) more ≡ first_left now (if b then Some n else more)
first_more (Some k) b n more = refl
first_more None true n more = refl
first_more None false n more = refl

first_last : (o : Option ℕ) → first_left o None ≡ o
first_last (Some k) = refl
first_last None = refl

-- ---- blocks

pub record Leads (f : PlainFunction) (sure : List ℕ) (whole : PlainBlock) (count : ℕ) (sure_now : List ℕ) (left_now : Option ℕ) (rest : PlainBlock) : Type 0 where
  pub meet : AllMeet f sure_now rest → AllMeet f sure whole
  pub grown : sure_now ++ top_level rest ≡ sure ++ top_level whole
  pub left : first_left left_now (left_in sure_now rest) ≡ left_in sure whole
  pub faults : (e : StrictError) (q : Place) → FaultAt f sure_now rest e q → FaultAt f sure whole e (later_by count q)

pub leads_first : (f : PlainFunction) (sure : List ℕ) (whole : PlainBlock) → Leads f sure whole 0 sure None whole
leads_first f sure whole = record {
  meet = λ h. h;
  grown = refl;
  left = refl;
  faults = λ e q h. h;
}

pub leads_more : (f : PlainFunction) (sure : List ℕ) (whole : PlainBlock) (index : ℕ) (sure_now sure_next : List ℕ) (left_now left_next : Option ℕ) (continues : Bool) (count : ℕ) (s : PlainStatement) (all rest : PlainBlock)
    → Leads f sure whole index sure_now left_now all → all ≡ next s rest → MeetWithin f sure_now s → sure_next ≡ sure_now ++ introduced s → continues ≡ holds_continue s
    → count ≡ length sure_next → left_next ≡ first_left left_now (if continues then Some count else None) → Leads f sure whole (index + 1) sure_next left_next rest
leads_more f sure whole index sure_now sure_next left_now left_next continues count s all rest leads is one brought holds many behind =
    let was : Leads f sure whole index sure_now left_now (next s rest) = subst (Leads f sure whole index sure_now left_now) is leads in
    let now = sure_now ++ introduced s in
    let length_is : count ≡ length now = many ∙ ap length brought in
    let made : Leads f sure whole (index + 1) now (first_left left_now (if holds_continue s then Some (length now) else None)) rest = record {
      meet = λ more. was.meet (one, more);
      grown = append_assoc sure_now (introduced s) (top_level rest) ∙ was.grown;
      left = first_more left_now (holds_continue s) (length now) (left_in now rest) ∙ was.left;
      faults = λ e q more. subst (FaultAt f sure whole e) (later_more index q) (was.faults e (later q) more);
    } in
    let same : left_next ≡ first_left left_now (if holds_continue s then Some (length now) else None) =
    behind ∙ (ap (λ b. first_left left_now (if b then Some count else None)) holds ∙ ap (λ n. first_left left_now (if holds_continue s then Some n else None)) length_is) in
    subst (λ xs. Leads f sure whole (index + 1) xs left_next rest) (sym brought) (subst (λ o. Leads f sure whole (index + 1) now o rest) (sym same) made)

pub leads_fault : (t : Trail) (e : StrictError) (f : PlainFunction) (sure : List ℕ) (whole : PlainBlock) (index : ℕ) (sure_now : List ℕ) (left_now : Option ℕ) (s : PlainStatement) (all rest : PlainBlock)
    → Leads f sure whole index sure_now left_now all → all ≡ next s rest → IsPlaced t (FaultFrom f sure_now index s e) → IsPlaced t (FaultAt f sure whole e)
leads_fault t e f sure whole index sure_now left_now s all rest leads is =
    placed_then t (FaultFrom f sure_now index s e) (FaultAt f sure whole e) (λ p wrong.
    let was : Leads f sure whole index sure_now left_now (next s rest) = subst (Leads f sure whole index sure_now left_now) is leads in
    subst (FaultAt f sure whole e) (sym wrong.1) (was.faults e wrong.0 (wrong.2 rest)))

pub leads_last : (f : PlainFunction) (sure : List ℕ) (whole : PlainBlock) (index : ℕ) (sure_now : List ℕ) (left_now : Option ℕ) (all : PlainBlock)
    → Leads f sure whole index sure_now left_now all → all ≡ stop → AllMeet f sure whole × (sure_now ≡ sure ++ top_level whole) × (left_now ≡ left_in sure whole)
leads_last f sure whole index sure_now left_now all leads is =
    let was : Leads f sure whole index sure_now left_now stop = subst (Leads f sure whole index sure_now left_now) is leads in
    (was.meet tt, sym (append-nil sure_now) ∙ was.grown, sym (first_last left_now) ∙ was.left)

-- ---- cases, which leave the scope as it was

pub record LeadsCases (f : PlainFunction) (sure : List ℕ) (whole : PlainCases) (count : ℕ) (continues : Bool) (rest : PlainCases) : Type 0 where
  pub meet : MeetInCases f sure rest → MeetInCases f sure whole
  pub holds : (continues || holds_continue_in_cases rest) ≡ holds_continue_in_cases whole
  pub faults : (e : StrictError) (k : ℕ) (q : Place) → FaultAt f sure (case_body rest k) e q → FaultAt f sure (case_body whole (count + k)) e q

pub cases_first : (f : PlainFunction) (sure : List ℕ) (whole : PlainCases) → LeadsCases f sure whole 0 false whole
cases_first f sure whole = record {
  meet = λ h. h;
  holds = refl;
  faults = λ e k q h. subst (λ n. FaultAt f sure (case_body whole n) e q) (let same : k ≡ 0 + k = omega arith in same) h;
}

or_more : (a b c : Bool) → ((a || b) || c) ≡ (a || (b || c))
or_more true b c = refl
or_more false b c = refl

or_last : (a : Bool) → (a || false) ≡ a
or_last true = refl
or_last false = refl

pub cases_more : (f : PlainFunction) (sure : List ℕ) (whole : PlainCases) (count : ℕ) (continues next_continues own : Bool) (value : SwitchValue) (body : PlainBlock) (falls : Bool) (all rest : PlainCases)
    → LeadsCases f sure whole count continues all → all ≡ case value body falls rest → AllMeet f sure body → own ≡ holds_continue_in body → next_continues ≡ (continues || own) → LeadsCases f sure whole (count + 1) next_continues rest
cases_more f sure whole count continues next_continues own value body falls all rest leads is one holds either =
    let was : LeadsCases f sure whole count continues (case value body falls rest) = subst (LeadsCases f sure whole count continues) is leads in
    let made : LeadsCases f sure whole (count + 1) (continues || holds_continue_in body) rest = record {
      meet = λ more. was.meet (one, more);
      holds = or_more continues (holds_continue_in body) (holds_continue_in_cases rest) ∙ was.holds;
      faults = λ e k q more. subst (λ n. FaultAt f sure (case_body whole n) e q) (let same : count + suc k ≡ (count + 1) + k = omega arith in same) (was.faults e (suc k) q more);
    } in
    subst (λ b. LeadsCases f sure whole (count + 1) b rest) (sym (either ∙ ap (λ b. continues || b) holds)) made

pub cases_fault : (t : Trail) (e : StrictError) (f : PlainFunction) (sure : List ℕ) (index : ℕ) (whole : PlainCases) (count : ℕ) (continues : Bool) (value : SwitchValue) (body : PlainBlock) (falls : Bool) (all rest : PlainCases)
    → LeadsCases f sure whole count continues all → all ≡ case value body falls rest → IsPlaced t (FaultInPart f sure index (case_at count) body e) → IsPlaced t (FaultInCase f sure index whole e)
cases_fault t e f sure index whole count continues value body falls all rest leads is =
    placed_then t (FaultInPart f sure index (case_at count) body e) (FaultInCase f sure index whole e) (λ p wrong.
    let was : LeadsCases f sure whole count continues (case value body falls rest) = subst (LeadsCases f sure whole count continues) is leads in
    let there : FaultAt f sure (case_body whole (count + 0)) e wrong.0 = was.faults e zero wrong.0 wrong.2 in
    (count, (wrong.0, wrong.1, subst (λ n. FaultAt f sure (case_body whole n) e wrong.0) (let same : count + 0 ≡ count = omega arith in same) there)))

pub cases_last : (f : PlainFunction) (sure : List ℕ) (whole : PlainCases) (count : ℕ) (continues : Bool) (all : PlainCases)
    → LeadsCases f sure whole count continues all → all ≡ no_case → MeetInCases f sure whole × (continues ≡ holds_continue_in_cases whole)
cases_last f sure whole count continues all leads is =
    let was : LeadsCases f sure whole count continues no_case = subst (LeadsCases f sure whole count continues) is leads in
    (was.meet tt, sym (or_last continues) ∙ was.holds)

-- ---- choices

pub if_meets : (f : PlainFunction) (sure sure_then : List ℕ) (s : PlainStatement) (test : ℕ) (accept reject : PlainBlock) → s ≡ if_ test accept reject
    → All (Known f sure) (statement_needed s) → AllMeet f sure accept → sure_then ≡ sure → AllMeet f sure_then reject → MeetWithin f sure s
if_meets f sure sure_then s test accept reject is used first same second =
    let at : All (Known f sure) (test ∷ []) = subst (λ x. All (Known f sure) (statement_needed x)) is used in
    subst (MeetWithin f sure) (sym is) (at, (first, subst (λ xs. AllMeet f xs reject) same second))

pub switch_meets : (f : PlainFunction) (sure : List ℕ) (s : PlainStatement) (selector : ℕ) (cases : PlainCases) → s ≡ switch selector cases
    → All (Known f sure) (statement_needed s) → MeetInCases f sure cases → MeetWithin f sure s
switch_meets f sure s selector cases is used each =
    let at : All (Known f sure) (selector ∷ []) = subst (λ x. All (Known f sure) (statement_needed x)) is used in
    subst (MeetWithin f sure) (sym is) (at, each)

-- ---- loops

-- after a loop's body, what is sure is left
pub body_left : (sure sure_body sure_left : List ℕ) (left : Option ℕ) (body : PlainBlock) → sure_body ≡ sure ++ top_level body → left ≡ left_in sure body → sure_left ≡ cut_to left sure_body → sure_left ≡ sure ++ sure_level body
body_left sure sure_body sure_left left body grown is cut = cut ∙ (ap (λ o. cut_to o sure_body) is ∙ (ap (cut_to (left_in sure body)) grown ∙ cut_left sure body))

pub loop_scope : (sure sure_left sure_last sure_cut : List ℕ) (count : ℕ) (s : PlainStatement) (body continuing : PlainBlock) (break_if : Option ℕ) → s ≡ loop body continuing break_if
    → sure_left ≡ sure ++ sure_level body → sure_last ≡ sure_left ++ top_level continuing → count ≡ length sure → sure_cut ≡ take count sure_last → sure_cut ≡ sure ++ introduced s
loop_scope sure sure_left sure_last sure_cut count s body continuing break_if is first second many cut =
    let whole : sure_last ≡ sure ++ (sure_level body ++ top_level continuing) = second ∙ (ap (λ xs. xs ++ top_level continuing) first ∙ append_assoc sure (sure_level body) (top_level continuing)) in
    let back : sure_cut ≡ sure = cut ∙ (ap (λ xs. take count xs) whole ∙ (ap (λ n. take n (sure ++ (sure_level body ++ top_level continuing))) many ∙ take-append_seam sure (sure_level body ++ top_level continuing))) in
    subst (λ x. sure_cut ≡ sure ++ introduced x) (sym is) (back ∙ sym (append-nil sure))

pub loop_meets : (f : PlainFunction) (sure sure_left sure_last : List ℕ) (s : PlainStatement) (body continuing : PlainBlock) (break_if : Option ℕ) → s ≡ loop body continuing break_if
    → sure_left ≡ sure ++ sure_level body → sure_last ≡ sure_left ++ top_level continuing → AllMeet f sure body → AllMeet f sure_left continuing → All (Known f sure_last) (needed_at (loop_condition break_if)) → MeetWithin f sure s
loop_meets f sure sure_left sure_last s body continuing break_if is first second in_body behind at =
    let there : sure_last ≡ (sure ++ sure_level body) ++ top_level continuing = second ∙ ap (λ xs. xs ++ top_level continuing) first in
    subst (MeetWithin f sure) (sym is) (in_body, (subst (λ xs. AllMeet f xs continuing) first behind, subst (λ xs. All (Known f xs) (needed_at (loop_condition break_if))) there at))

-- ---- what is wrong with a statement

pub here_wrong : (t : Trail) (e : StrictError) (f : PlainFunction) (sure : List ℕ) (index : ℕ) (s : PlainStatement) → place_of t ≡ later_by index here → IfFault e (IsFaultHere f (statement s) sure)
    → IsPlaced t (FaultFrom f sure index s e)
here_wrong t e f sure index s is wrong = (later_by index here, leads t (later_by index here) is, (here, refl, λ rest. wrong))

pub condition_wrong : (t : Trail) (e : StrictError) (f : PlainFunction) (sure : List ℕ) (index : ℕ) (break_if : Option ℕ) → place_of t ≡ later_by index condition → IfFault e (IsFaultHere f (loop_condition break_if) sure)
    → IsPlaced t (FaultAtCondition f sure index break_if e)
condition_wrong t e f sure index break_if is wrong = (later_by index condition, leads t (later_by index condition) is, (refl, wrong))

pub part_wrong : (t : Trail) (e : StrictError) (f : PlainFunction) (sure sure_in : List ℕ) (index : ℕ) (s : PlainStatement) (part : Part) (b : PlainBlock) → b ≡ part_of (shape_of s) part → sure_in ≡ entering_by sure_level sure s part
    → IsPlaced t (FaultInPart f sure_in index part b e) → IsPlaced t (FaultFrom f sure index s e)
part_wrong t e f sure sure_in index s part b is entered =
    placed_then t (FaultInPart f sure_in index part b e) (FaultFrom f sure index s e) (λ p wrong. (
      at.inside part wrong.0,
      wrong.1,
      λ rest.
          subst (λ x. FaultAt f (entering_by sure_level sure s part) x e wrong.0) is (subst (λ xs. FaultAt f xs b e wrong.0) entered wrong.2),
    ))

pub switch_wrong : (t : Trail) (e : StrictError) (f : PlainFunction) (sure : List ℕ) (index : ℕ) (s : PlainStatement) (selector : ℕ) (cases : PlainCases) → s ≡ switch selector cases
    → IsPlaced t (FaultInCase f sure index cases e) → IsPlaced t (FaultFrom f sure index s e)
switch_wrong t e f sure index s selector cases is =
    placed_then t (FaultInCase f sure index cases e) (FaultFrom f sure index s e) (λ p wrong.
    subst (λ x. FaultFrom f sure index x e p) (sym is) (at.inside (case_at wrong.0) wrong.1.0, wrong.1.1, λ rest. wrong.1.2))

pub loop_wrong : (t : Trail) (e : StrictError) (f : PlainFunction) (sure sure_left sure_last : List ℕ) (index : ℕ) (s : PlainStatement) (body continuing : PlainBlock) (break_if : Option ℕ) → s ≡ loop body continuing break_if
    → sure_left ≡ sure ++ sure_level body → sure_last ≡ sure_left ++ top_level continuing → IsPlaced t (FaultAtCondition f sure_last index break_if e) → IsPlaced t (FaultFrom f sure index s e)
loop_wrong t e f sure sure_left sure_last index s body continuing break_if is first second =
    placed_then t (FaultAtCondition f sure_last index break_if e) (FaultFrom f sure index s e) (λ p wrong.
    let there : sure_last ≡ (sure ++ sure_level body) ++ top_level continuing = second ∙ ap (λ xs. xs ++ top_level continuing) first in
    subst (λ x. FaultFrom f sure index x e p) (sym is)
    (condition, wrong.0, λ rest. subst (λ xs. IfFault e (IsFaultHere f (loop_condition break_if) xs)) there wrong.1))
