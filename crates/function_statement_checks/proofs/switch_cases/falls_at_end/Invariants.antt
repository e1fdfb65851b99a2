use Rattle.std.proofs.Common.{◌≡◌, drop, map, false}
use Rattle.ir_blocks.specs.found.View.{case_view, cases_of}
use Rattle.spec_statements.specs.judged.Switches.{falls_at_end}
use Rattle.function_statement_checks.proofs.switch_cases.falls_at_end.Given as goal

abbrev pub invariant-loop-case : goal.invariant-loop-case
invariant-loop-case l = falls_at_end l.falls (cases_of (map case_view (drop l.case-index l.cases))) ≡ falls_at_end false (cases_of (map case_view l.cases))
