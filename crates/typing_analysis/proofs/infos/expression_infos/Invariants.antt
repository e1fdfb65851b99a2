-- What is assembled so far, followed by the rest's infos, is the infos of all.
use Rattle.std.proofs.Common.{◌≡◌, ◌++◌, length}
use Rattle.std.specs.Vec.Iter.{into_iter_items, into_iter_len}
use Rattle.typing_analysis.specs.Kept.{infos_from}
use Rattle.typing_analysis.proofs.infos.expression_infos.Given as goal

abbrev pub invariant-loop-ty : goal.invariant-loop-ty
invariant-loop-ty l =
    ((l.infos.items ++ infos_from l.uniformities l.counts l.globals (length l.infos.items) (into_iter_items l.ty-iterator)) ≡ infos_from l.uniformities l.counts l.globals 0 l.fn.types.items)
    × (into_iter_len l.ty-iterator ≡ length (into_iter_items l.ty-iterator))
