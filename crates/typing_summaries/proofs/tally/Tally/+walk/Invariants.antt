use Rattle.std.proofs.Common.{◌≡◌, drop, map}
use Rattle.ir_blocks.specs.found.View.{statements_view, case_view, cases_of}
use Rattle.typing_summaries.specs.Joined.{AreJoined}
use Rattle.typing_summaries.specs.Tallies.{known, tallied, done_in, done_in_cases}
use Rattle.typing_summaries.proofs.tally.Tally.+walk.Given as goal

-- tallying the rest gives the tally of the whole, and the pairs of merged callees are in the list
abbrev pub invariant-add_all-loop-statement : goal.invariant-add_all-loop-statement
invariant-add_all-loop-statement l =
    (done_in (known l.context) (statements_view (drop l.statement-index l.statement-items)) (tallied l.self) ≡ done_in (known l.context) (statements_view l.statement-items) (tallied l.fn.self))
    × AreJoined (known l.context) l.joined.passed.items (tallied l.self).paired.pairs

abbrev pub invariant-add_cases-loop-case : goal.invariant-add_cases-loop-case
invariant-add_cases-loop-case l =
    (done_in_cases (known l.context) (cases_of (map case_view (drop l.case-index l.cases))) (tallied l.self) ≡ done_in_cases (known l.context) (cases_of (map case_view l.cases)) (tallied l.fn.self))
    × AreJoined (known l.context) l.joined.passed.items (tallied l.self).paired.pairs
