use Rattle.std.proofs.Common.{sym, ◌∙◌}
use Rattle.std.proofs.lemmas.Option.{same_Some}
use Rattle.document_forms.proofs.form.is_unique.Goals as goal

pub returns : goal.returns
returns g c = λ d x y le h i. same_Some x y (sym (g.F.Form.form.exact.complete d x h le) ∙ g.F.Form.form.exact.complete d y i le)
