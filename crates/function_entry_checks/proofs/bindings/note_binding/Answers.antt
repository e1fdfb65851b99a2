use Rattle.function_entry_checks.proofs.SeenLaws.{seen_added}
use Rattle.function_entry_checks.proofs.bindings.note_binding.Goals as goal

pub returns-in-Ok-clause-noted : goal.returns-in-Ok-clause-noted
returns-in-Ok-clause-noted c = seen_added c.args.binding c.args.seen.now c.insert.new.self c.in-Ok.ensures.updates.0 c.in-Ok.ensures.updates.1
