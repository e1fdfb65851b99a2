use Rattle.std.proofs.Common.{drop, map}
use Rattle.ir_blocks.specs.found.View.{statements_view, case_view, cases_of}
use Rattle.ir_places.specs.Each.{AllAre, AllInCases}
use Rattle.ir_places.proofs.each.+each.Given as goal

-- the rest implies the whole
abbrev pub invariant-check_block-loop-index : goal.invariant-check_block-loop-index
invariant-check_block-loop-index g l =
    AllAre (g.T.StatementRule.meets l.rule) (statements_view (drop l.index l.statement-items)) → AllAre (g.T.StatementRule.meets l.rule) (statements_view l.statement-items)

abbrev pub invariant-check_cases-loop-number : goal.invariant-check_cases-loop-number
invariant-check_cases-loop-number g l =
    AllInCases (g.T.StatementRule.meets l.rule) (cases_of (map case_view (drop l.number l.cases))) → AllInCases (g.T.StatementRule.meets l.rule) (cases_of (map case_view l.cases))
