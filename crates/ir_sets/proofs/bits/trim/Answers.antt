use Rattle.std.proofs.Common.{◌-◌, ◌<◌, length, ◌∙◌, arith}
use Rattle.std.proofs.lemmas.List.{get_or_default}
use Rattle.ir_sets.proofs.Words.{front_bits, front_trimmed}
use Rattle.ir_sets.proofs.bits.trim.Goals as goal
use Rattle.ir_sets.proofs.bits.trim.Goals.{then-loop-count-test+else-index-eq0, else-loop-count-test}

pub returns-clause-trimmed : goal.returns-clause-trimmed
returns-clause-trimmed c =
    let words = c.args.words.now.items in
    let count = c.loop-count.count in
    front_trimmed words c.truncate.new.self.items count c.truncate.ensures.items c.loop-count.invariant.0
    (elim c.loop-count-test.branch [
      | then-loop-count-test+else-index-eq0 w ↦ λ more zero.
          let inside : count - 1 < length words = omega arith in
          w.if-index-eq0.false (w.index.ensures ∙ get_or_default words (count - 1) w.index.result.now 0 inside ∙ zero)
      | else-loop-count-test w ↦ λ more. absurd (omega arith)
    ])
    c.type_inv.words

pub returns-clause-bits : goal.returns-clause-bits
returns-clause-bits c n = rw c.truncate.ensures.items (front_bits c.args.words.now.items c.loop-count.count c.loop-count.invariant.1 n)
