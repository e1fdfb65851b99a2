-- The sizes fit the stage as its row says.
use Rattle.std.proofs.Common.{rules, All, subst}
use Rattle.function_entry_checks.specs.Faults.{IsSizeFault, of_sizes}
use Rattle.ir_items.specs.found.View.{entry_view}
use Rattle.spec_interface.specs.judged.Stages.{stage_row, SizeOK}
use Rattle.function_entry_checks.proofs.stages.check_stage.Goals as goal

pub returns-in-Err-check_sizes : goal.returns-in-Err-check_sizes
returns-in-Err-check_sizes c =
    of_sizes (subst (λ b. IsSizeFault b (entry_view c.args.entry.now).sizes c.in-Err-check_sizes.error) c.runs_in_workgroups.ensures c.in-Err-check_sizes.ensures)

pub returns-in-Some : goal.returns-in-Some
returns-in-Some c =
    let sizes : All (SizeOK (stage_row (entry_view c.args.entry.now).stage).workgroups) (entry_view c.args.entry.now).sizes =
    subst (λ b. All (SizeOK b) (entry_view c.args.entry.now).sizes) c.runs_in_workgroups.ensures c.in-Ok-check_sizes.ensures in
    search (rules, sizes)

pub returns-in-None : goal.returns-in-None
returns-in-None c =
    let sizes : All (SizeOK (stage_row (entry_view c.args.entry.now).stage).workgroups) (entry_view c.args.entry.now).sizes =
    subst (λ b. All (SizeOK b) (entry_view c.args.entry.now).sizes) c.runs_in_workgroups.ensures c.in-Ok-check_sizes.ensures in
    search (rules, sizes)
