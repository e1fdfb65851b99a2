use Rattle.std.proofs.Common.{◌∙◌, false, refl, sym}
use Rattle.std.proofs.lemmas.List.{length-map}
use Rattle.shader_ir.specs.Arenas.{value_of_entry}
use Rattle.shader_ir.specs.View.{module_view, type_view, values_of}
use Rattle.test_layers.proofs.single.accepts_type.Goals as goal

pub validate_type-requires-clause-known : goal.validate_type-requires-clause-known
validate_type-requires-clause-known c =
    let types = c.args.«module».now.types in
    c.types_are_known.ensures _ false (module_view c.args.«module».now) c.in-Ok.info c.in-Ok.ensures.accepted c.in-Ok.ensures.told _ refl c.in-Ok-update.ensures.held
    (c.in-Ok-update.ensures.all ∙ sym (length-map (values_of types) type_view ∙ length-map types value_of_entry)) c.types.ensures
