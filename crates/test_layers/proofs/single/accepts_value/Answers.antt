use Rattle.std.proofs.Common.{false, refl, rules}
use Rattle.shader_ir.specs.View.{module_view}
use Rattle.test_layers.proofs.single.accepts_value.Goals as goal

pub validate_const_expression-requires-clause-known : goal.validate_const_expression-requires-clause-known
validate_const_expression-requires-clause-known c =
    c.values_are_known.ensures _ false c.in-Ok.info _ c.in-Ok.ensures.accepted c.in-Ok.ensures.told c.in_ok-kinds-in-Ok.ensures (search rules) c.types.ensures

pub validate_expression-requires-clause-known : goal.validate_expression-requires-clause-known
validate_expression-requires-clause-known c =
    c.expressions_are_known.ensures _ false (module_view c.args.«module».now) c.in-Ok.info c.in-Ok.ensures.accepted c.in-Ok.ensures.told _ refl c.in_ok-kinds-in-Ok.ensures c.types-in-Ok.ensures
