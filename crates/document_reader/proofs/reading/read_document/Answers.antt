use Rattle.std.proofs.Common.{ap, ◌∙◌}
use Rattle.document_reader.proofs.Seam.{err_if, reads_document, reads_none, no_value, none_written, reason_of}
use Rattle.document_reader.specs.found.Reasons.{of_part}
use Rattle.document_reader.proofs.reading.read_document.Goals as goal

pub returns-in_err-read_value-in-Ok-clause-reason : goal.returns-in_err-read_value-in-Ok-clause-reason
returns-in_err-read_value-in-Ok-clause-reason c =
    err_if _ _ _ c.from_residual.ensures
    (λ e gives. reason_of c.args.bytes.now _ e gives
    (λ other. none_written c.args.bytes.now _ c.in-Ok.ensures.value (c.in_err-read_value-in-Ok.ensures.refused other)))

pub returns-in_err-read_value-in-Ok-clause-refused : goal.returns-in_err-read_value-in-Ok-clause-refused
returns-in_err-read_value-in-Ok-clause-refused c =
    err_if _ _ _ c.from_residual.ensures
    (λ e gives other. reads_none c.args.bytes.now _ c.in-Ok.ensures.value (c.in_err-read_value-in-Ok.ensures.refused (λ lack. other (gives ∙ ap of_part lack))))

pub returns-in_ok-read_value-in-Ok-clause-found : goal.returns-in_ok-read_value-in-Ok-clause-found
returns-in_ok-read_value-in-Ok-clause-found c =
    reads_document c.args.bytes.now _ _ c.in-Ok.ensures.value c.in_ok-read_value-in-Ok.ensures.found c.in_ok-read_value-in-Ok.ensures.distinct

pub returns-in-Err-clause-refused : goal.returns-in-Err-clause-refused
returns-in-Err-clause-refused c = λ other. no_value c.args.bytes.now (c.in-Err.ensures.none other)
