use Rattle.std.proofs.Common.{◌≢◌, map, take, Contains}
use Rattle.ir_kinds.specs.declared.values.SwitchValue.{SwitchValue}
use Rattle.ir_kinds.specs.declared.values.SwitchValue.TheVariants.{Default}
use Rattle.function_statement_checks.proofs.CaseLemmas.{value_of}
use Rattle.function_statement_checks.proofs.switch_cases.has_default.Given as goal

-- none so far is the default
abbrev pub invariant-loop-case : goal.invariant-loop-case
invariant-loop-case l = (v : SwitchValue) → Contains (map value_of (take l.case-index l.cases)) v → v ≢ Default
