use Rattle.typing_layout.proofs.TypingForms.{inner_found}
use Rattle.module_type_checks.proofs.facts.type_at.Goals as goal

pub returns : goal.returns
returns c = inner_found c.args.types.now c.args.ty c.index.result.now c.index.ensures
