use Rattle.std.proofs.Common.{◌∙◌, sym, subst}
use Rattle.std.proofs.lemmas.Option.{same_Some}
use Rattle.function_varyings.specs.Marks.{IsNumber}
use Rattle.function_varyings.proofs.marks.take_one.Goals as goal

pub returns-clause-still : goal.returns-clause-still
returns-clause-still c = λ n had. c.take_word.ensures.still n (c.in_ok-room_for.ensures n ∙ had)

pub returns-clause-free : goal.returns-clause-free
returns-clause-free c = λ free mark takes.
    let n = c.in_ok-number.number in
    let is = c.take_word.ensures.free free n c.with_number-word.ensures.added in (
      n,
      subst (λ m. IsNumber c.number_of.new.numbers m n) (same_Some c.in-Some.mark mark (c.in-Some.ensures mark takes)) c.in_ok-number.ensures.noted,
      is.0,
      sym (c.in_ok-room_for.ensures n) ∙ is.1,
    )
