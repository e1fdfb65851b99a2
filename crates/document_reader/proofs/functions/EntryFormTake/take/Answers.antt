use Rattle.std.proofs.Common.{rules, Some, ap, ◌∙◌}
use Rattle.ir_items.specs.found.View.{entry_view}
use Rattle.document_reader.proofs.functions.EntryFormTake.take.Goals as goal

pub returns : goal.returns
returns c = ap (λ x. Some (entry_view x)) c.entry_of.ensures ∙ (search rules)
