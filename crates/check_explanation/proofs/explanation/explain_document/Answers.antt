use Rattle.document_reader.specs.found.View.{document_view}
use Rattle.check_explanation.proofs.ExplainedLaws.{found_if, can_report, explained_in}
use Rattle.check_explanation.proofs.explanation.explain_document.Goals as goal

pub explained-requires : goal.explained-requires
explained-requires c = record { can = can_report (document_view c.args.document.now) _ c.in_ok-examined.examined c.in_ok-examined.ensures.examined }

pub returns-clause-finding : goal.returns-clause-finding
returns-clause-finding c = found_if (document_view c.args.document.now) _ c.in_ok-examined.examined c.explained.result c.in_ok-examined.ensures.examined c.explained.ensures.finding

pub returns-clause-explains : goal.returns-clause-explains
returns-clause-explains c = explained_in c.args.requested (document_view c.args.document.now) _ c.in_ok-examined.examined c.explained.result c.in_ok-examined.ensures.examined c.explained.ensures.explains
