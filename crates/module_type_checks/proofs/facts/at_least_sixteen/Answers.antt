use Rattle.typing_layout.proofs.Powers.{sixteen}
use Rattle.module_type_checks.proofs.facts.at_least_sixteen.Goals as goal

pub invariant_of-result : goal.invariant_of-result
invariant_of-result c = sixteen
