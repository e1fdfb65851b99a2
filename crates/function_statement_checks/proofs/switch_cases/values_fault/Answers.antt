use Rattle.std.proofs.Common.{◌≡◌, Bool, true, false, not, Contains, map, take, true≢false, refl, sym, ◌∙◌, arith}
use Rattle.std.specs.BTreeSet.{contains}
use Rattle.spec_statements.specs.judged.Switches.{FitsKind}
use Rattle.function_statement_checks.specs.CaseValues.{value_key}
use Rattle.function_statement_checks.proofs.CaseLemmas.{key_cmp, value_of, held, found, more_keys, held_at, all_apart, stands_twice}
use Rattle.function_statement_checks.proofs.CaseLists.{distinct_more, each_more}
use Rattle.function_statement_checks.proofs.switch_cases.values_fault.Goals as goal

not_false : (b : Bool) → false ≡ not b → b ≡ true
not_false true e = refl
not_false false e = cc

not_true : (b : Bool) → true ≡ not b → b ≡ false
not_true true e = cc
not_true false e = refl

pub loop-case-init : goal.loop-case-init
loop-case-init c = (λ q. rw c.new-seen.ensures.empty refl, λ i j d lt len. absurd (omega arith), λ v held. absurd (let lt = held.1 in omega arith))

pub returns-then-not-fits_kind-clause-some : goal.returns-then-not-fits_kind-clause-some
returns-then-not-fits_kind-clause-some c = (
  value_of c.case-item.result,
  held_at c.args.cases.now c.loop-case.case-index c.case-item.result c.loop-case-test.true c.case-item.is,
  λ fits. true≢false (sym (c.if-not-fits_kind.ensures.1 fits)),
)

pub returns-then-not-branch-clause-some : goal.returns-then-not-branch-clause-some
returns-then-not-branch-clause-some c =
    let there : contains key_cmp c.loop-case.seen (value_key (value_of c.case-item.result)) ≡ true = not_false _ (sym c.if-not-branch.true ∙ rw c.value_key.ensures at c.in_ok-insert.ensures.added) in
    let before : Contains (map value_of (take c.loop-case.case-index c.args.cases.now)) (value_of c.case-item.result) =
    held _ _ (sym (c.loop-case.invariant.0 (value_key (value_of c.case-item.result))) ∙ there) in
    c.repeated.ensures _ (stands_twice c.args.cases.now c.loop-case.case-index c.case-item.result c.loop-case-test.true c.case-item.is before)

pub loop-case-preserved : goal.loop-case-preserved
loop-case-preserved c =
    let absent : contains key_cmp c.loop-case.seen (value_key (value_of c.case-item.result)) ≡ false = not_true _ (sym c.if-not-branch.false ∙ rw c.value_key.ensures at c.in_ok-insert.ensures.added) in
    let updates = rw c.value_key.ensures at c.in_ok-insert.ensures.updates in (
      λ q. more_keys c.args.cases.now c.loop-case.case-index c.case-item.result q _ _ c.loop-case-test.true c.case-item.is (c.loop-case.invariant.0 q) (updates.0 q),
      distinct_more value_of c.args.cases.now c.loop-case.case-index c.case-item.result c.loop-case-test.true c.case-item.is c.loop-case.invariant.1
          (λ there. true≢false (sym (c.loop-case.invariant.0 (value_key (value_of c.case-item.result)) ∙ found _ _ there) ∙ absent)),
      each_more value_of (FitsKind c.args.kind) c.args.cases.now c.loop-case.case-index c.case-item.result c.loop-case-test.true c.case-item.is c.loop-case.invariant.2
          (c.if-not-fits_kind.ensures.0 refl),
    )

pub returns-clause-none : goal.returns-clause-none
returns-clause-none c = λ _. all_apart c.args.kind c.args.cases.now c.loop-case.case-index c.loop-case-test.false c.loop-case.invariant.1 c.loop-case.invariant.2
