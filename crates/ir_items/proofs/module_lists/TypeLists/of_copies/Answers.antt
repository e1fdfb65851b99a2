use Rattle.ir_blocks.proofs.IrTypes.{eq_by_view}
use Rattle.ir_items.proofs.module_lists.TypeLists.of_copies.Goals as goal

pub clone-requires : goal.clone-requires
clone-requires c = eq_by_view
