use Rattle.check_json.specs.Written.{AddsItems}
use Rattle.check_names.proofs.object.add_words.Given as goal

abbrev pub invariant-loop-word : goal.invariant-loop-word
invariant-loop-word l = AddsItems l.fn.w l.w
