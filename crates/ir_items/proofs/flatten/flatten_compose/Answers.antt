use Rattle.std.proofs.Common.{◌≡◌, ℕ, List, Option, sym, ap, subst, ◌∙◌}
use Rattle.std.specs.Option.{option_and_then}
use Rattle.ir_blocks.specs.IrTypes.{PlainType, type_view}
use Rattle.ir_items.specs.judged.Bases.{expressions_of}
use Rattle.ir_items.specs.found.Flat.{types_of, size_at, vector_size, IsFlattened}
use Rattle.ir_items.proofs.Places.{plain_at}
use Rattle.ir_items.proofs.flatten.flatten_compose.Goals as goal

pub returns : goal.returns
returns c =
    let at = plain_at type_view c.args.types.now c.args.ty c.index.result.now c.index.ensures in
    let size : size_at (types_of c.args.types.now) c.args.ty ≡ c.vector_size-size.result = ap (option_and_then (λ (t : PlainType). vector_size t.inner)) at ∙ sym c.vector_size-size.ensures in
    subst (λ (o : Option ℕ). IsFlattened (expressions_of c.args.expressions.now) o c.args.components.now c.new.result) (sym size)
    (subst (λ (l : List ℕ). IsFlattened (expressions_of c.args.expressions.now) c.vector_size-size.result c.args.components.now l) (sym c.new.ensures) c.in_ok-handles.ensures)
