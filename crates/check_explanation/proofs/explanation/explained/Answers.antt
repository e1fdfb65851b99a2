-- proofs/explanation/explained/Answers.antt
use Rattle.std.proofs.Common.{◌≡◌, IfOk, subst, sym}
use Rattle.ir_items.specs.found.View.{module_view}
use Rattle.shader_check.specs.found.Examined.{finding_in}
use Rattle.check_explanation.specs.Explained.{finding_of}
use Rattle.check_explanation.specs.Listed.{ExplainsModule}
use Rattle.check_explanation.proofs.ExplainedLaws.{accepted_if, accepted_explains, refused_if, refused_explains}
use Rattle.check_explanation.proofs.explanation.explained.Goals as goal

pub returns-in-Accepted-clause-finding : goal.returns-in-Accepted-clause-finding
returns-in-Accepted-clause-finding c = subst (λ x. IfOk c.accepted-explanation.result (λ e. finding_of e ≡ finding_in x)) (sym c.in-Accepted.is)
    (accepted_if c.args.requested (module_view c.args.«module».now) c.in-Accepted.strict c.accepted-explanation.result c.accepted-explanation.ensures)

pub returns-in-Accepted-clause-explains : goal.returns-in-Accepted-clause-explains
returns-in-Accepted-clause-explains c = accepted_explains c.args.requested (module_view c.args.«module».now) _ c.in-Accepted.strict c.accepted-explanation.result c.accepted-explanation.ensures

pub returns-in-Refused-clause-finding : goal.returns-in-Refused-clause-finding
returns-in-Refused-clause-finding c = subst (λ x. IfOk c.refused.result (λ e. finding_of e ≡ finding_in x)) (sym c.in-Refused.is)
    (refused_if _ c.refused.result c.refused.ensures)

pub returns-in-Refused-clause-explains : goal.returns-in-Refused-clause-explains
returns-in-Refused-clause-explains c = subst (λ x. IfOk c.refused.result (ExplainsModule c.args.requested (module_view c.args.«module».now) x)) (sym c.in-Refused.is)
    (refused_explains c.args.requested (module_view c.args.«module».now) _ c.refused.result c.refused.ensures)
