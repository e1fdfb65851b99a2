use Rattle.std.proofs.Common.{rules, Some, ap, ◌∙◌}
use Rattle.ir_items.specs.found.View.{function_view}
use Rattle.document_reader.proofs.functions.FunctionFormForm.read.Goals as goal

pub returns : goal.returns
returns c = ap (λ x. Some (function_view x)) c.function_of.ensures ∙ (search rules)
