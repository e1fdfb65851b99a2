use Rattle.std.proofs.Common.{◌≡◌, Some, subst}
use Rattle.ir_arena.specs.found.Arenas.{value_at}
use Rattle.typing_forms.proofs.Lookups.{inner_found}
use Rattle.module_handles.proofs.types.type_at.Goals as goal

pub returns : goal.returns
returns c =
    inner_found c.args.«module».now.types c.args.index c.index.result.now (subst (λ h. Some c.index.result.now ≡ value_at c.args.«module».now.types h) c.at.ensures c.index.ensures)
