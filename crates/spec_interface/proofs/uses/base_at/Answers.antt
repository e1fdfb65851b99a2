use Rattle.std.proofs.Common.{sym, ap, ◌∙◌}
use Rattle.spec_interface.specs.judged.Spaces.{array_base}
use Rattle.spec_interface.proofs.uses.base_at.Goals as goal

pub returns-in-Some : goal.returns-in-Some
returns-in-Some c = c.array_base.ensures ∙ ap array_base (sym c.in-Some.ensures)

pub returns-in-None : goal.returns-in-None
returns-in-None c = sym (ap array_base c.in-None.ensures)
