use Rattle.std.proofs.Common.{map}
use Rattle.ir_types.specs.judged.ExpressionPlain.{expression_view}
use Rattle.ir_items.specs.found.GlobalView.{values_of}
use Rattle.typing_resolve.specs.View.{context_view}
use Rattle.typing_infos.proofs.TypeLemmas.{Known}
use Rattle.typing_infos.proofs.types.types_of.Given as goal

abbrev pub invariant-loop-handle : goal.invariant-loop-handle
invariant-loop-handle l = Known (context_view l.context) (map expression_view (values_of l.expressions)) l.types.items l.handle-iterator
