use Rattle.std.proofs.Common.{◌<◌, ◌∙◌, false, refl, sym, subst}
use Rattle.std.proofs.lemmas.List.{length-map}
use Rattle.shader_ir.specs.Arenas.{value_of_entry}
use Rattle.shader_ir.specs.View.{global_view, module_view, values_of}
use Rattle.test_layers.proofs.judged.leaves_of.Goals as goal

pub buffer_leaves-requires-clause-handles : goal.buffer_leaves-requires-clause-handles
buffer_leaves-requires-clause-handles c = c.in-Ok.ensures.accepted.handles

pub buffer_leaves-requires-clause-laid : goal.buffer_leaves-requires-clause-laid
buffer_leaves-requires-clause-laid c = c.accepted_is_laid.ensures _ false (module_view c.args.«module».now) c.in-Ok.ensures.accepted

-- the variable is one of the module's
pub buffer_leaves-requires-clause-there : goal.buffer_leaves-requires-clause-there
buffer_leaves-requires-clause-there c =
    let variables = c.args.«module».now.global_variables in
    subst (λ n. c.args.global < n) (sym (length-map (values_of variables) global_view ∙ length-map variables value_of_entry)) (c.in-Ok-check_contains_handle.ensures.found.0 refl)
