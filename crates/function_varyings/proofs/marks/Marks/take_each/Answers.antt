use Rattle.std.proofs.Common.{◌<◌, ◌≤◌, length, get_or, arith}
use Rattle.std.proofs.lemmas.Option.{slice_get-get_or}
use Rattle.function_varyings.proofs.MarkLaws.{below_end, marks_still, taken_more}
use Rattle.function_varyings.proofs.marks.Marks.take_each.Goals as goal

pub returns-in-Ok-false-clause-known : goal.returns-in-Ok-false-clause-known
returns-in-Ok-false-clause-known c = λ types known.
    let m = c.loop-place.self in
    marks_still c.args.flags types m.parts m.numbers c.take_one.new.numbers m.words.items m.words.items c.in-Ok-false.ensures.kept (λ k w at. at) (omega arith) (c.loop-place.invariant.1 types known)

pub loop-place-preserved : goal.loop-place-preserved
loop-place-preserved c =
    let vs = c.args.varyings.now in
    let place = c.loop-place.place in
    let v = c.index-varyings-place.result in
    let m = c.loop-place.self in
    let within : place < length vs = omega (arith, c.loop-place-test.true) in (
      λ mark n had. c.in-Ok-true.ensures.kept mark n (c.loop-place.invariant.0 mark n had),
      λ types known. marks_still c.args.flags types m.parts m.numbers c.take_one.new.numbers m.words.items m.words.items c.in-Ok-true.ensures.kept (λ k w at. at) (omega arith) (c.loop-place.invariant.1 types known),
      λ n had. c.in-Ok-true.ensures.still n (c.loop-place.invariant.2 n had),
      taken_more c.args.flags vs place (get_or vs place v) m.numbers c.take_one.new.numbers c.args.taken.now.items c.loop-place.taken.items c.take_one.new.taken.items (slice_get-get_or vs place v within)
          c.in-Ok-true.ensures.kept c.loop-place.invariant.2 c.in-Ok-true.ensures.still (c.in-Ok-true.ensures.free c.in-Ok-true.field-0-test) c.loop-place.invariant.3,
    )

pub returns-clause-free : goal.returns-clause-free
returns-clause-free c = λ free place mark takes.
    let vs = c.args.varyings.now in
    let past : length vs ≤ c.loop-place.place = omega (arith, c.loop-place-test.false) in
    c.loop-place.invariant.3 place mark (below_end vs place c.loop-place.place mark c.args.flags past takes) takes
