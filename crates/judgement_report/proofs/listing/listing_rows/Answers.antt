use Rattle.std.proofs.Common.{ap, ◌∙◌}
use Rattle.ir_arena.specs.found.Arenas.{value_at}
use Rattle.ir_items.specs.found.GlobalView.{global_view}
use Rattle.ir_items.specs.found.View.{module_view}
use Rattle.judgement_report.proofs.Laid.{global_found}
use Rattle.judgement_report.proofs.Reported.{each_more}
use Rattle.judgement_report.specs.Lines.{described, leaf_report, listing_lines}
use Rattle.spec_expressions.specs.judged.ModuleReferences.{variable, variable_type}
use Rattle.spec_expressions.specs.judged.References.{item}
use Rattle.spec_expressions.specs.declared.target.Target.TheVariants as target
use Rattle.judgement_report.proofs.listing.listing_rows.Goals as goal

pub add_variable-requires-clause-typed : goal.add_variable-requires-clause-typed
add_variable-requires-clause-typed c =
    let at = global_found global_view c.args.«module».now.global_variables c.loop-number.number c.index-variable.result.now (c.index-variable.ensures ∙ ap (value_at c.args.«module».now.global_variables) c.at.ensures) in
    c.requires.handles.there (variable c.loop-number.number) (item (target.Type c.index-variable.result.now.ty)) (variable_type at)

pub loop-number-preserved : goal.loop-number-preserved
loop-number-preserved c =
    let m = module_view c.args.«module».now in
    let at = global_found global_view c.args.«module».now.global_variables c.loop-number.number c.index-variable.result.now (c.index-variable.ensures ∙ ap (value_at c.args.«module».now.global_variables) c.at.ensures) in
    each_more (described m.types) m.globals c.loop-number.number (global_view c.index-variable.result.now) (listing_lines c.loop-number.out.rows.items) (listing_lines c.add_variable.new.out.rows.items) (leaf_report m) at c.loop-number.invariant c.in_ok-add_variable.ensures
