use Rattle.std.proofs.Common.{◌∙◌, false, rules, sym}
use Rattle.std.proofs.lemmas.Option.{slice_get-map}
use Rattle.shader_ir.specs.Arenas.{value_of_entry}
use Rattle.shader_ir.specs.View.{module_view}
use Rattle.test_layers.proofs.single.computes.Goals as goal

-- the function is one of the module's, whose handles are in order
pub from_arena-requires : goal.from_arena-requires
from_arena-requires c =
    (c.order_gives_origins.ensures c.args.«module».now c.in-Ok.ensures.accepted.handles).functions c.args.function _
    (slice_get-map value_of_entry c.args.«module».now.functions c.args.function ∙ sym c.in-Ok-try_get.ensures.value)

pub check_expression-requires-clause-made : goal.check_expression-requires-clause-made
check_expression-requires-clause-made c =
    c.made_for_accepted.ensures _ false (module_view c.args.«module».now) c.in-Ok.info c.new-lower.result c.in-Ok.ensures.accepted c.in-Ok.ensures.told c.new-lower.ensures.info c.new-lower.ensures.severities

pub check_expression-requires-clause-known : goal.check_expression-requires-clause-known
check_expression-requires-clause-known c = record {
  kinds = c.in_ok-kinds-in-Ok-try_get.ensures;
  answers = search rules;
  descriptors = λ type marked at. absurd (let h = at in cc);
}
