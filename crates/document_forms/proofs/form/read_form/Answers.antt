use Rattle.document_forms.proofs.FormLaws.{answer_written, answer_refused}
use Rattle.document_forms.proofs.form.read_form.Goals as goal

pub returns-clause-ok : goal.returns-clause-ok
returns-clause-ok g c = answer_written g.F.Form.form.exact g.F.Form.view _ _ c.read.ensures

pub returns-clause-malformed : goal.returns-clause-malformed
returns-clause-malformed g c = answer_refused g.F.Form.form.exact g.F.Form.view _ _ c.read.ensures
