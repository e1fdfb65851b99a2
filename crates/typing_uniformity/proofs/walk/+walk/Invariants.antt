-- The result so far, combined with the rest's, is the result of the whole.
use Rattle.std.proofs.Common.{◌≡◌, ◌||◌, is_some, option_map, drop, map}
use Rattle.ir_blocks.specs.found.View.{statements_view, case_view, cases_of}
use Rattle.spec_expressions.specs.judged.Disruption.{ends_in, ends_in_cases}
use Rattle.spec_expressions.specs.found.Found.{first_required, required_in, required_in_cases}
use Rattle.typing_uniformity.specs.Requiring.{varies_of, look_of, required_view}
use Rattle.typing_uniformity.proofs.walk.+walk.Given as goal

abbrev pub invariant-seen_in-loop-statement : goal.invariant-seen_in-loop-statement
invariant-seen_in-loop-statement l = record {
  ends : (is_some l.seen.end || ends_in (varies_of l.facts.uniformities.now) (is_some l.current) (statements_view (drop l.statement-index l.statement-items))) ≡ ends_in (varies_of l.facts.uniformities.now) (is_some l.disruptor) (statements_view l.statement-items);
  asked : first_required (option_map required_view l.seen.fault) (required_in (varies_of l.facts.uniformities.now) (look_of l.facts.uniformities.now l.facts.next.now) (is_some l.current) (statements_view (drop l.statement-index l.statement-items))) ≡ required_in (varies_of l.facts.uniformities.now) (look_of l.facts.uniformities.now l.facts.next.now) (is_some l.disruptor) (statements_view l.statement-items);
}

abbrev pub invariant-seen_in_cases-loop-case : goal.invariant-seen_in_cases-loop-case
invariant-seen_in_cases-loop-case l = record {
  ends : (is_some l.seen.end || ends_in_cases (varies_of l.facts.uniformities.now) (is_some l.disruptor) (cases_of (map case_view (drop l.case-index l.cases)))) ≡ ends_in_cases (varies_of l.facts.uniformities.now) (is_some l.disruptor) (cases_of (map case_view l.cases));
  asked : first_required (option_map required_view l.seen.fault) (required_in_cases (varies_of l.facts.uniformities.now) (look_of l.facts.uniformities.now l.facts.next.now) (is_some l.disruptor) (cases_of (map case_view (drop l.case-index l.cases)))) ≡ required_in_cases (varies_of l.facts.uniformities.now) (look_of l.facts.uniformities.now l.facts.next.now) (is_some l.disruptor) (cases_of (map case_view l.cases));
}
