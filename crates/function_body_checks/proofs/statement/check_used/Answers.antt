use Rattle.function_body_checks.proofs.FaultLaws.{if_fault_then}
use Rattle.function_body_checks.proofs.statement.check_used.Goals as goal

pub returns-in-Some-clause-fault : goal.returns-in-Some-clause-fault
returns-in-Some-clause-fault c = if_fault_then c.in-Some.error _ _ (λ e told. told c.args.asked c.args.carried.now.answered) c.in-Some.ensures.found
