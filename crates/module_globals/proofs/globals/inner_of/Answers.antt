use Rattle.std.proofs.Common.{sym}
use Rattle.typing_forms.proofs.Lookups.{inner_found}
use Rattle.module_globals.proofs.globals.inner_of.Goals as goal

pub returns : goal.returns
returns c = sym (inner_found c.args.context.now.«module».now.types c.args.ty c.index.result.now c.index.ensures)
