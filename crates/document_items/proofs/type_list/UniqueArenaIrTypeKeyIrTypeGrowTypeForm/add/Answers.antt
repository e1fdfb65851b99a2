use Rattle.std.proofs.Common.{sym, ◌∙◌}
use Rattle.ir_arena.specs.found.Spans.{undefined_span}
use Rattle.document_items.proofs.TypeListLaws.{not_grown}
use Rattle.document_items.proofs.type_list.UniqueArenaIrTypeKeyIrTypeGrowTypeForm.add.Goals as goal

pub returns-then-len-before-clause-refused : goal.returns-then-len-before-clause-refused
returns-then-len-before-clause-refused c = λ n.
    not_grown c.args.self.now c.insert.new.self c.args.item undefined_span c.in_ok-insert.ensures.ok
    (sym c.len.ensures.value ∙ (c.if-len-before.true ∙ c.len-before.ensures.value))
