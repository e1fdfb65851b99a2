use Rattle.std.proofs.Common.{◌≡◌, ◌≤◌, length}
use Rattle.std.specs.Fn.{FnReturnsAtPair}
use Rattle.std.proofs.lemmas.Result.{IfOk-weaker, on_err_weaker}
use Rattle.ir_arena.specs.found.Arenas.{PassesNowhere}
use Rattle.ir_arena.proofs.arena.Arena.fetch_if_or_append.Goals as goal

pub returns-in-Some-clause-found : goal.returns-in-Some-clause-found
returns-in-Some-clause-found g c =
    λ within. rw c.at.ensures (rw c.self.view_is at c.in-Some.ensures.found)

pub returns-in-None-clause-absent : goal.returns-in-None-clause-absent
returns-in-None-clause-absent g c =
    let absent = rw c.self.view_is at c.in-None.ensures.none in
    IfOk-weaker c.append.result (λ h. h ≡ length c.args.self.now)
    (λ h. length c.args.self.now ≤ h → PassesNowhere (λ old. FnReturnsAtPair g.F.Fn c.args.fun old c.args.value) c.args.self.now) (λ h is above. absent) c.append.ensures.handle

pub returns-in-None-clause-err_absent : goal.returns-in-None-clause-err_absent
returns-in-None-clause-err_absent g c =
    let absent = rw c.self.view_is at c.in-None.ensures.none in
    on_err_weaker {Q = PassesNowhere (λ old. FnReturnsAtPair g.F.Fn c.args.fun old c.args.value) c.args.self.now} c.append.result (λ _. absent) c.append.ensures.err
