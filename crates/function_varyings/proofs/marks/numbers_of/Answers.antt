use Rattle.std.proofs.Common.{◌<◌, ◌≤◌, length, get_or, arith}
use Rattle.std.proofs.lemmas.List.Sorted.{Contains-permutation}
use Rattle.std.proofs.lemmas.Option.{slice_get-get_or}
use Rattle.function_varyings.proofs.MarkLaws.{below_end, found_more}
use Rattle.function_varyings.proofs.marks.numbers_of.Goals as goal

pub loop-place-preserved : goal.loop-place-preserved
loop-place-preserved c =
    let vs = c.args.varyings.now in
    let place = c.loop-place.place in
    let v = c.index-varyings-place.result in
    let within : place < length vs = omega (arith, c.loop-place-test.true) in (
      λ mark n had. c.in-Ok.ensures.kept mark n (c.loop-place.invariant.0 mark n had),
      found_more c.args.flags vs place (get_or vs place v) c.loop-place.numbers c.push_number.new.numbers c.loop-place.found.items c.push_number.new.found.items (slice_get-get_or vs place v within)
          c.in-Ok.ensures.kept c.in-Ok.ensures.still c.in-Ok.ensures.pushed c.loop-place.invariant.1,
    )

pub returns-clause-all : goal.returns-clause-all
returns-clause-all c = λ place mark takes.
    let vs = c.args.varyings.now in
    let end = c.loop-place.place in
    let past : length vs ≤ end = omega (arith, c.loop-place-test.false) in
    let at = c.loop-place.invariant.1 place mark (below_end vs place end mark c.args.flags past takes) takes in
    (at.0, at.1, Contains-permutation c.loop-place.found.items c.sort_unstable.new.self.items at.0 c.sort_unstable.ensures.permutation at.2)
