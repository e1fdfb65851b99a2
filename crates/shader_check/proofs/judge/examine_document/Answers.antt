use Rattle.document_reader.specs.found.View.{document_view}
use Rattle.ir_items.specs.found.View.{module_view}
use Rattle.shader_check.proofs.JudgedLaws.{examined_if}
use Rattle.shader_check.proofs.judge.examine_document.Goals as goal

pub returns-clause-examined : goal.returns-clause-examined
returns-clause-examined c = examined_if (document_view c.args.document.now) (module_view c.prepare.new.«module») c.examine_module.result c.in_ok-prepare.ensures.ok c.examine_module.ensures
