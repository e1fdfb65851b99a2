use Rattle.std.proofs.Common.{◌≡◌, ◌≤◌, ◌∷◌, [], Some, length, slice_get, sym, subst, arith}
use Rattle.function_varyings.proofs.MarkLaws.{all_among, all_more, in_longer, kept_both}
use Rattle.function_varyings.proofs.marks.add_words.Goals as goal

pub loop-place-preserved : goal.loop-place-preserved
loop-place-preserved c =
    let first = c.args.words.now.items in
    let old = c.loop-place.words.items in
    let new = c.add_number.new.words.items in (
      kept_both first old new c.loop-place.invariant.0 c.in-Ok.ensures.kept,
      omega (arith, c.loop-place.invariant.1, c.in-Ok.ensures.longer),
      all_more c.args.numbers.now c.loop-place.place (length first) old new c.loop-place.word c.in-Ok.next c.in-Ok.ensures.kept c.loop-place.invariant.1 c.in-Ok.ensures.longer c.in-Ok.ensures.added c.in-Ok.ensures.still c.loop-place.invariant.2,
    )

pub returns-clause-kept : goal.returns-clause-kept
returns-clause-kept c = λ k w at.
    subst (λ words. slice_get words k ≡ Some w) (sym c.in_ok-push.ensures.items) (in_longer c.loop-place.words.items (c.loop-place.word ∷ []) k w (c.loop-place.invariant.0 k w at))

pub returns-clause-added : goal.returns-clause-added
returns-clause-added c =
    let past : length c.args.numbers.now ≤ c.loop-place.place = omega (arith, c.loop-place-test.false) in
    all_among c.args.numbers.now c.loop-place.place (length c.args.words.now.items) c.loop-place.words.items c.push.new.self.items c.loop-place.word c.in_ok-push.ensures.items c.loop-place.invariant.1 past c.loop-place.invariant.2
