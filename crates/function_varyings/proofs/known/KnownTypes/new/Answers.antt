use Rattle.function_varyings.proofs.KnownLaws.{none_noted}
use Rattle.function_varyings.proofs.known.KnownTypes.new.Goals as goal

pub returns : goal.returns
returns c = λ flags capabilities types. record { noted = none_noted flags capabilities types c.new.result c.new.ensures.empty; marked = c.new-2.ensures flags types }
