use Rattle.std.proofs.Common.{sym, ap, ◌∙◌}
use Rattle.spec_interface.specs.judged.Meshes.{array_of}
use Rattle.function_entries.proofs.meshes.array_at.Goals as goal

pub returns-in-Some : goal.returns-in-Some
returns-in-Some c = c.array_of.ensures ∙ ap array_of (sym c.in-Some.ensures)

pub returns-in-None : goal.returns-in-None
returns-in-None c = sym (ap array_of c.in-None.ensures)
