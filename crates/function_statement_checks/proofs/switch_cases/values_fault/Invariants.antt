use Rattle.std.proofs.Common.{◌≡◌, ◌≢◌, ℕ, ℤ, map, take, Contains}
use Rattle.std.specs.List.{AllPairs}
use Rattle.std.specs.BTreeSet.{contains}
use Rattle.ir_kinds.specs.declared.values.SwitchValue.{SwitchValue}
use Rattle.spec_statements.specs.judged.Switches.{FitsKind}
use Rattle.function_statement_checks.proofs.CaseLemmas.{key_cmp, value_of, has_key}
use Rattle.function_statement_checks.proofs.switch_cases.values_fault.Given as goal

-- the set has the keys of the values so far, which differ and are of the kind
abbrev pub invariant-loop-case : goal.invariant-loop-case
invariant-loop-case l = ((q : ℕ × ℤ) → contains key_cmp l.seen q ≡ has_key (take l.case-index l.cases) q)
    × AllPairs (λ v w. v ≢ w) (map value_of (take l.case-index l.cases))
    × ((v : SwitchValue) → Contains (map value_of (take l.case-index l.cases)) v → FitsKind l.kind v)
