use Rattle.std.proofs.Common.{◌≢◌, Contains, true≢false, refl, sym, subst, arith}
use Rattle.ir_kinds.specs.declared.values.SwitchValue.TheVariants.{Default}
use Rattle.function_statement_checks.proofs.CaseLemmas.{value_of, held_at, held_all}
use Rattle.function_statement_checks.proofs.CaseLists.{each_more}
use Rattle.function_statement_checks.proofs.switch_cases.has_default.Goals as goal

pub loop-case-init : goal.loop-case-init
loop-case-init c = λ v held. absurd (let lt = held.1 in omega arith)

pub returns-then-is_default : goal.returns-then-is_default
returns-then-is_default c = (
  λ _. subst (Contains _) (c.if-is_default.ensures.0 refl) (held_at c.args.cases.now c.loop-case.case-index c.case-item.result c.loop-case-test.true c.case-item.is),
  λ _. refl,
)

pub loop-case-preserved : goal.loop-case-preserved
loop-case-preserved c =
    each_more value_of (λ v. v ≢ Default) c.args.cases.now c.loop-case.case-index c.case-item.result c.loop-case-test.true c.case-item.is c.loop-case.invariant
    (λ same. true≢false (sym (c.if-is_default.ensures.1 same)))

pub returns : goal.returns
returns c = (λ never. absurd (true≢false (sym never)), λ held. absurd (c.loop-case.invariant Default (held_all c.args.cases.now c.loop-case.case-index Default c.loop-case-test.false held) refl))
