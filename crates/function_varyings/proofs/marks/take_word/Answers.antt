use Rattle.std.proofs.Common.{◌≡◌, ◌<◌, ◌∙◌, true, length, get_or, set, bit_and, bit_or, sym, subst, arith}
use Rattle.std.proofs.lemmas.List.{get_or_default}
use Rattle.ir_sets.specs.Bits.{has_bit}
use Rattle.function_varyings.proofs.MarkLaws.{bits_added, bits_free, bits_still}
use Rattle.function_varyings.proofs.marks.take_word.Goals as goal

pub returns-clause-still : goal.returns-clause-still
returns-clause-still c = λ n had.
    let words = c.args.taken.now.items in
    let index = c.args.word.index in
    let bits = c.args.word.bits in
    let inside : index < length words = omega (arith, c.len.ensures) in
    let is : c.index_mut.result.now ≡ get_or words index 0 = c.index_mut.ensures.value ∙ get_or_default words index c.index_mut.result.now 0 inside in
    subst (λ w. has_bit (set words index (bit_or w bits)) n ≡ true) (sym is) (bits_still words index bits inside n had)

pub returns-clause-free : goal.returns-clause-free
returns-clause-free c = λ free n among.
    let words = c.args.taken.now.items in
    let index = c.args.word.index in
    let bits = c.args.word.bits in
    let inside : index < length words = omega (arith, c.len.ensures) in
    let is : c.index_mut.result.now ≡ get_or words index 0 = c.index_mut.ensures.value ∙ get_or_default words index c.index_mut.result.now 0 inside in
    let read : c.index.result.now ≡ get_or words index 0 = c.index.ensures ∙ get_or_default words index c.index.result.now 0 inside in
    let none : bit_and (get_or words index 0) bits ≡ 0 = subst (λ w. bit_and w bits ≡ 0) read c.if-index-word-ne0.false in (
      subst (λ w. has_bit (set words index (bit_or w bits)) n ≡ true) (sym is) (bits_added words index bits inside n among.0 among.1),
      bits_free words index bits inside none n among.0 among.1,
    )
