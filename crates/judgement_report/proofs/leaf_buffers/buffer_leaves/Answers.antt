use Rattle.std.proofs.Common.{◌≡◌, ◌++◌, ap, sym, ◌∙◌}
use Rattle.ir_items.specs.found.GlobalView.{global_view}
use Rattle.ir_items.specs.found.View.{module_view}
use Rattle.judgement_report.proofs.Along.{all_along, many_types}
use Rattle.judgement_report.proofs.Laid.{laid_in_range, global_found}
use Rattle.judgement_report.specs.Rows.{rows}
use Rattle.judgement.proofs.Buffers.{types_go_back}
use Rattle.judgement.specs.judged.BufferLaws.{buffer_type}
use Rattle.judgement.specs.judged.Leaves.{leaves}
use Rattle.spec_interface.specs.judged.Spaces.{effective_type}
use Rattle.typing_layout.specs.judged.View.{tree_along}
use Rattle.judgement_report.proofs.leaf_buffers.buffer_leaves.Goals as goal

pub add_along-requires-clause-sizes : goal.add_along-requires-clause-sizes
add_along-requires-clause-sizes c = laid_in_range (module_view c.args.module.now) c.requires.laid

pub returns : goal.returns
returns c =
    let types = (module_view c.args.module.now).types in
    let v = global_view c.index-variable.result.now in
    let tree : tree_along types c.len.result c.counted-ty.result ≡ buffer_type types v =
    ap (λ h. tree_along types c.len.result h) c.counted-ty.ensures
    ∙ (ap (λ n. tree_along types n (effective_type types v.ty)) (c.len.ensures.value ∙ sym (many_types c.args.module.now.types)) ∙ all_along types (types_go_back (module_view c.args.module.now) c.requires.handles) (effective_type types v.ty)) in
    record {
      variable = v;
      at = global_found global_view c.args.module.now.global_variables c.args.global c.index-variable.result.now c.index-variable.ensures;
      are = c.in_ok-add_along.ensures ∙ (ap (λ o. o ++ rows 0 (leaves 1 (tree_along types c.len.result c.counted-ty.result))) c.new-found.ensures.items ∙ ap (λ t. rows 0 (leaves 1 t)) tree);
    }
