use Rattle.std.proofs.Common.{sym, ap, ◌∙◌}
use Rattle.spec_interface.specs.judged.Uses.{handle_uses}
use Rattle.spec_interface.proofs.uses.uses_at.Goals as goal

pub returns-in-Some : goal.returns-in-Some
returns-in-Some c = c.handle_uses.ensures ∙ ap handle_uses (sym c.in-Some.ensures)

pub returns-in-None : goal.returns-in-None
returns-in-None c = sym (ap handle_uses c.in-None.ensures)
