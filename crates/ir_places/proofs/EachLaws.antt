-- A property along a body holds wherever a statement occurs.
use Rattle.std.proofs.Common.{◌≡◌, zero, suc, ℕ, ◌+◌, ◌<◌, ◌≤◌, List, map, length, drop, get_or, arith, sym, subst}
use Rattle.std.proofs.Math.Seq.{drop-cons}
use Rattle.std.proofs.lemmas.List.{drop_all}
use Rattle.ir_blocks.specs.declared.statements.Statement.{Statement}
use Rattle.ir_blocks.specs.declared.statements.SwitchCase.{SwitchCase}
use Rattle.ir_blocks.specs.found.View.{block_view, case_view, cases_of, statements_view}
use Rattle.ir_places.proofs.StandLaws.{none_in_stop}
use Rattle.ir_places.proofs.TrailLaws.{body_is}
use Rattle.ir_blocks.specs.judged.Places.{Place, here, later, condition, OccursAt}
use Rattle.ir_blocks.specs.judged.Places as at
use Rattle.ir_blocks.specs.judged.Plain.{PlainStatement, emit, block, if_, switch, loop, break, continue, return, kill, operation, call, PlainBlock, stop, next, PlainCases, no_case, case}
use Rattle.ir_blocks.specs.judged.Shapes.{shape_of, Part, inner, accepting, rejecting, case_at, loop_body, loop_continuing, case_body, part_of}
use Rattle.ir_places.specs.Each.{AllAre, AllWithin, AllInCases}

module _ (P : PlainStatement → Type 0) where
  case_is : (cs : PlainCases) (k : ℕ) → AllInCases P cs → AllAre P (case_body cs k)
  case_is no_case k h = tt
  case_is (case value body falls rest) zero h = h.0
  case_is (case value body falls rest) (suc k) h = case_is rest k h.1

  part_is : (s : PlainStatement) (part : Part) → AllWithin P s → AllAre P (part_of (shape_of s) part)
  part_is (emit first end) part h = tt
  part_is (block b) inner h = h
  part_is (block b) _ h = tt
  part_is (if_ test accept reject) accepting h = h.0
  part_is (if_ test accept reject) rejecting h = h.1
  part_is (if_ test accept reject) _ h = tt
  part_is (switch selector cases) (case_at k) h = case_is cases k h
  part_is (switch selector cases) _ h = tt
  part_is (loop body continuing break_if) loop_body h = h.0
  part_is (loop body continuing break_if) loop_continuing h = h.1
  part_is (loop body continuing break_if) _ h = tt
  part_is break part h = tt
  part_is continue part h = tt
  part_is (return value) part h = tt
  part_is kill part h = tt
  part_is (operation a) part h = tt
  part_is (call function arguments answer) part h = tt

  pub is_at : (p : Place) (b : PlainBlock) → AllAre P b → (s : PlainStatement) → OccursAt b p s → P s
  is_at p stop h s stands = none_in_stop p s stands
  is_at here (next u rest) h s stands =
      let same : u ≡ s = (let x = stands in cc) in subst P same h.0
  is_at (later p) (next u rest) h s stands = is_at p rest h.1.1 s stands
  is_at (at.inside part p) (next u rest) h s stands = is_at p (part_of (shape_of u) part) (part_is u part h.1.0) s stands
  is_at condition (next u rest) h s stands = let x = stands in absurd (cc)

  -- ---- iteration over a list by an index

  pub none_left : (items : List Statement) (i : ℕ) → length items ≤ i → (AllAre P (statements_view (drop i items)) → AllAre P (statements_view items)) → AllAre P (statements_view items)
  none_left items i past leads = leads (subst (λ x. AllAre P (statements_view x)) (sym (drop_all i items past)) tt)

  pub case_more : (items : List SwitchCase) (i : ℕ) (c : SwitchCase) → i < length items → c ≡ get_or items i c → AllAre P (block_view c.body)
      → AllInCases P (cases_of (map case_view (drop (i + 1) items))) → AllInCases P (cases_of (map case_view (drop i items)))
  case_more items i c within is own rest =
      subst (λ x. AllInCases P (cases_of (map case_view x))) (sym (drop-cons items i c within)) (subst (λ x. AllAre P (case_view x).body) is (subst (AllAre P) (body_is c) own), subst (λ k. AllInCases P (cases_of (map case_view (drop k items)))) (let e : i + 1 ≡ suc i = omega arith in e) rest)
