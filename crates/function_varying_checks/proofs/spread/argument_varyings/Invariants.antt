-- What was added with the rest is what all add.
use Rattle.std.proofs.Common.{◌≡◌, ◌++◌, drop, map}
use Rattle.ir_items.specs.found.View.{argument_view}
use Rattle.spec_interface.specs.judged.Varyings.{argument_varyings, argument_varyings_from}
use Rattle.typing_forms.specs.judged.Resolutions.{types_view}
use Rattle.function_varying_checks.proofs.spread.argument_varyings.Given as goal

abbrev pub invariant-loop-index : goal.invariant-loop-index
invariant-loop-index l =
    l.varyings.items ++ argument_varyings_from (types_view l.types) l.index (map argument_view (drop l.index l.arguments))
    ≡ argument_varyings (types_view l.types) (map argument_view l.arguments)
