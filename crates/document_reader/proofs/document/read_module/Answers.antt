use Rattle.document_reader.proofs.Seam.{err_if, module_refused}
use Rattle.document_reader.proofs.document.read_module.Goals as goal

pub returns-in_err-types-clause-refused : goal.returns-in_err-types-clause-refused
returns-in_err-types-clause-refused c =
    err_if _ _ _ c.from_residual-in_err-types.ensures
    (λ e gives other. module_refused _ _ _ c.in_ok-first.ensures (c.in_err-types.ensures.refused (λ lack. other (let g = gives in let l = lack in cc))))
