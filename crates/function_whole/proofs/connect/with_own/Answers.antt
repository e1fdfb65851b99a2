use Rattle.function_whole.proofs.connect.with_own.Goals as goal

pub returns-clause-added : goal.returns-clause-added
returns-clause-added g c = record { many = c.note_own.ensures.globals; uses = c.note_own.ensures.uses; pairs = c.note_own.ensures.pairs; may_kill = c.note_own.ensures.may_kill }
