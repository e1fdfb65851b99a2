-- Bodies whose end is not reachable, except by breaks.
use Rattle.ir_blocks.specs.judged.Places.{Place}
use Rattle.ir_blocks.specs.judged.Plain.{PlainBlock}
use Rattle.ir_blocks.specs.judged.Tails.{IsOpenEnd}

-- control does not fall through any tail block of the body
abbrev pub HasNoOpenEnd : PlainBlock → Type 0
HasNoOpenEnd b = (p : Place) → ¬ IsOpenEnd b p
