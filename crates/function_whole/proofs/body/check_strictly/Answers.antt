use Rattle.std.proofs.Common.{rules, IsTrue}
use Rattle.ir_items.specs.found.View.{function_view}
use Rattle.function_whole.proofs.PartLaws.{strict_asked}
use Rattle.function_whole.proofs.body.check_strictly.Goals as goal

pub returns-in-Err-clause-fault : goal.returns-in-Err-clause-fault
returns-in-Err-clause-fault c = λ scope.
    let asked : IsTrue c.requires_strict.result = search rules in
    strict_asked c.check_strict.new.trail c.args.flags (function_view c.args.function.now) (c.requires_strict.ensures.0 asked) c.in-Err.refusal (c.in-Err.ensures.fault scope)
