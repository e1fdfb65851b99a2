use Rattle.std.proofs.Common.{sym, ◌∙◌, refl}
use Rattle.std.proofs.lemmas.Result.{on_err_weaker}
use Rattle.ir_arena.proofs.Found.{passes_at, passes_nowhere, none_passes}
use Rattle.ir_arena.specs.found.Arenas.{has_value}
use Rattle.ir_arena.proofs.arena.Arena.fetch_or_append.Goals as goal

pub returns-in-Some-clause-ok : goal.returns-in-Some-clause-ok
returns-in-Some-clause-ok g c =
    let there = (passes_at (has_value g.T.PartialEq.eq c.args.value) c.args.self.now c.in-Some.place (sym c.find.ensures.value ∙ c.in-Some.is)).0 in
    rw there refl

pub returns-in-None-clause-handle : goal.returns-in-None-clause-handle
returns-in-None-clause-handle g c =
    let absent = passes_nowhere (has_value g.T.PartialEq.eq c.args.value) c.args.self.now (sym c.find.ensures.value ∙ c.in-None.is) in
    rw (none_passes (has_value g.T.PartialEq.eq c.args.value) c.args.self.now absent) c.append.ensures.handle

pub returns-in-None-clause-ok : goal.returns-in-None-clause-ok
returns-in-None-clause-ok g c =
    let absent = passes_nowhere (has_value g.T.PartialEq.eq c.args.value) c.args.self.now (sym c.find.ensures.value ∙ c.in-None.is) in
    rw absent c.append.ensures.ok

pub returns-in-None-clause-err_absent : goal.returns-in-None-clause-err_absent
returns-in-None-clause-err_absent g c =
    let absent = passes_nowhere (has_value g.T.PartialEq.eq c.args.value) c.args.self.now (sym c.find.ensures.value ∙ c.in-None.is) in
    on_err_weaker _ (λ _. absent) c.append.ensures.err
