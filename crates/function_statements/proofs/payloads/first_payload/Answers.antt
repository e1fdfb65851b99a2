use Rattle.std.proofs.Common.{ap, ◌∙◌}
use Rattle.typing_references.specs.First.{first_in}
use Rattle.function_statements.proofs.PayloadLemmas.{first_reported}
use Rattle.function_statements.specs.Payloads.{payload_type}
use Rattle.function_statements.proofs.payloads.first_payload.Goals as goal

pub returns : goal.returns
returns g c =
    let x = g.C.StatementContext.seen c.args.context.now in
    first_reported x c.first_in.result (c.first_in.ensures ∙ ap (first_in (λ s. payload_type x s)) c.body.ensures)
