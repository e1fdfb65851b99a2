use Rattle.std.proofs.Common.{◌+◌, ◌*◌, ◌/◌, ◌%◌, ◌^◌, ◌<◌, arith, rules, w64}
use Rattle.std.proofs.lemmas.Nat.{shr_le}
use Rattle.std.proofs.lemmas.Nat.Bits.{bit_at-trailing_zeros}
use Rattle.std.specs.Int.{trailing_zeros}
use Rattle.ir_sets.specs.Bits.{has_bit}
use Rattle.ir_sets.proofs.Words.{none_left, first_left, none_more, none_past}
use Rattle.ir_sets.proofs.bits.first_between.Goals as goal

pub returns-in_default-clause-none : goal.returns-in_default-clause-none
returns-in_default-clause-none c =
    none_more (has_bit c.args.words.now) c.args.from c.loop-place.place c.args.end c.loop-place.invariant.1 (none_past c.args.words.now c.loop-place.place c.args.end c.in_default.ensures.lookup.3)

pub returns-then-first-end-clause-some : goal.returns-then-first-end-clause-some
returns-then-first-end-clause-some c =
    let word = c.in-Some.word.now in
    let place = c.loop-place.place in
    let is = c.in-Some.ensures.lookup.3.1 0 in
    let small : word < 2 ^ 64 = search rules in
    let rest = word / 2 ^ (place % 64) in
    let lowest = bit_at-trailing_zeros w64 rest (omega arith) (omega (arith, shr_le word (place % 64))) in
    let first = first_left c.args.words.now place word is small (trailing_zeros w64 rest) lowest in
    record {
      reached = omega arith;
      within = c.if-first-end.true;
      passes = first.set;
      before = none_more (has_bit c.args.words.now) c.args.from place _ c.loop-place.invariant.1 first.before;
    }

pub returns-else-first-end-clause-none : goal.returns-else-first-end-clause-none
returns-else-first-end-clause-none c =
    let word = c.in-Some.word.now in
    let place = c.loop-place.place in
    let is = c.in-Some.ensures.lookup.3.1 0 in
    let small : word < 2 ^ 64 = search rules in
    let rest = word / 2 ^ (place % 64) in
    let lowest = bit_at-trailing_zeros w64 rest (omega arith) (omega (arith, shr_le word (place % 64))) in
    let first = first_left c.args.words.now place word is small (trailing_zeros w64 rest) lowest in
    λ n reached within. none_more (has_bit c.args.words.now) c.args.from place (place + trailing_zeros w64 rest) c.loop-place.invariant.1 first.before n reached (omega arith)

pub loop-place-preserved : goal.loop-place-preserved
loop-place-preserved c =
    let word = c.in-Some.word.now in
    let place = c.loop-place.place in
    let is = c.in-Some.ensures.lookup.3.1 0 in
    let small : word < 2 ^ 64 = search rules in
    (omega arith, none_more (has_bit c.args.words.now) c.args.from place ((place / 64 + 1) * 64) c.loop-place.invariant.1 (none_left c.args.words.now place word is small c.if-rest-ne0.false))
