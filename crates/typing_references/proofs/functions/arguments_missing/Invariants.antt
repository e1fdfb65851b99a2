use Rattle.std.proofs.Common.{◌≡◌, drop, map}
use Rattle.ir_items.specs.found.View.{argument_view}
use Rattle.typing_references.specs.Faults.{argument_missing}
use Rattle.typing_references.specs.First.{first_of}
use Rattle.typing_references.proofs.functions.arguments_missing.Given as goal

-- the first match of the rest is the first of all
abbrev pub invariant-loop-argument : goal.invariant-loop-argument
invariant-loop-argument l =
    first_of (argument_missing l.bounds) (map argument_view (drop l.argument-index l.arguments)) ≡ first_of (argument_missing l.bounds) (map argument_view l.arguments)
