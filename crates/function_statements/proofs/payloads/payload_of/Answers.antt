use Rattle.std.proofs.Common.{inl, inr}
use Rattle.function_statements.proofs.PayloadLemmas.{none_told, other_refused}
use Rattle.function_statements.proofs.payloads.payload_of.Goals as goal

pub returns-in-None-first_payload : goal.returns-in-None-first_payload
returns-in-None-first_payload g c =
    let x = g.C.StatementContext.seen c.args.context.now in none_told x.m x.f c.args.held c.in-None.is c.in-None-first_payload.ensures

pub returns-in-Some-other_payload : goal.returns-in-Some-other_payload
returns-in-Some-other_payload g c =
    let x = g.C.StatementContext.seen c.args.context.now in
    other_refused c.other_payload.new.trail x.m x.f c.args.held c.in-Some-other_payload.ty c.in-Some.before (inl c.in-Some.is) c.in-Some-other_payload.ensures

pub returns-in-Some-other_payload-2 : goal.returns-in-Some-other_payload-2
returns-in-Some-other_payload-2 g c =
    let x = g.C.StatementContext.seen c.args.context.now in
    other_refused c.other_payload-in-Some-first_payload.new.trail x.m x.f c.args.held c.in-Some-other_payload-2.ty c.in-Some-first_payload.before (inr (c.in-None.is, c.in-Some-first_payload.ensures)) c.in-Some-other_payload-2.ensures
