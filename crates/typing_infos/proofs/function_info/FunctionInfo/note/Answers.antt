use Rattle.std.proofs.Common.{sym, ap, subst, length, ◌∙◌}
use Rattle.std.specs.Prelude.{◌↔◌, ◌⊎◌}
use Rattle.spec_expressions.specs.judged.Summaries.{HasUseBit}
use Rattle.typing_infos.specs.Infos.{NotesUse}
use Rattle.typing_infos.proofs.UseBits.{with_bits, with_length}
use Rattle.typing_infos.proofs.function_info.FunctionInfo.note.Goals as goal

pub returns-clause-uses : goal.returns-clause-uses
returns-clause-uses c = λ g k.
    subst (λ uses. HasUseBit uses g k ↔ (HasUseBit c.args.self.now.uses.items g k ⊎ NotesUse c.args.uses.now g k)) (sym c.mark_all.ensures)
    (with_bits c.args.self.now.uses.items c.args.uses.now g k c.requires)

pub returns-clause-globals : goal.returns-clause-globals
returns-clause-globals c = ap length c.mark_all.ensures ∙ with_length c.args.self.now.uses.items c.args.uses.now
