-- The arguments before are as they should be, and what they take is taken.
use Rattle.std.proofs.Common.{map, take}
use Rattle.ir_items.specs.found.View.{argument_view}
use Rattle.spec_interface.specs.judged.Varyings.{VaryingsOK, argument_varyings}
use Rattle.function_varying_checks.specs.View.{context_view}
use Rattle.function_varyings.specs.Known.{AreKnown}
use Rattle.function_varyings.specs.Marks.{AreTaken}
use Rattle.function_varyings.proofs.known.KnownTypes.are_apart.Given as goal

abbrev pub invariant-loop-index : goal.invariant-loop-index
invariant-loop-index l =
    let v = context_view l.context in
    let done = argument_varyings v.types (map argument_view (take l.index l.arguments)) in
    AreKnown v l.self × VaryingsOK v done × AreTaken v.flags l.self.marks.numbers l.taken.items done
