use Rattle.std.proofs.Common.{sym, ◌∙◌}
use Rattle.ir_types.specs.judged.Plain.{inner_view}
use Rattle.module_globals.proofs.Along.{tree_along_all, many_types}
use Rattle.module_globals.proofs.LeafLemmas.{met_all}
use Rattle.typing_forms.specs.judged.Resolutions.{types_view}
use Rattle.module_globals.proofs.slots.ImmediateSlots.from_type.Goals as goal

pub returns : goal.returns
returns c = λ k within.
    let all = tree_along_all (types_view c.args.types.now) c.requires c.len.result (c.len.ensures.value ∙ sym (many_types c.args.types.now)) (inner_view c.args.ty.now) in
    met_all k _ _ c.args.offset _ all (c.slots_of.ensures k within)
