use Rattle.std.proofs.Common.{◌∙◌, sym}
use Rattle.function_varyings.proofs.marks.take_part.Goals as goal

pub returns-clause-still : goal.returns-clause-still
returns-clause-still c = λ n had. c.take_words.ensures.still n (c.in_ok-make_room.ensures n ∙ had)

pub returns-clause-free : goal.returns-clause-free
returns-clause-free c = λ free n among. (let is = c.take_words.ensures.free free n among in (is.0, sym (c.in_ok-make_room.ensures n) ∙ is.1))
