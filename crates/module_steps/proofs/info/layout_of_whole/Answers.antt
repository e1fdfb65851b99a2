use Rattle.std.proofs.Common.{rules, ◌∙◌}
use Rattle.module_steps.proofs.LayoutLaws.{broken_here}
use Rattle.module_steps.proofs.WholeLaws.{whole_storage, whole_uniform, whole_alignment}
use Rattle.typing_layout.specs.judged.Flags.{HasFlag, HostShareable}
use Rattle.module_type_checks.specs.Known.{tree_in}
use Rattle.typing_layout.specs.found.BufferFaults.{BreaksStorage, BreaksUniform}
use Rattle.typing_layout.specs.declared.type_error.Disalignment.TheVariants as fault
use Rattle.module_steps.proofs.info.layout_of_whole.Goals as goal

pub returns-then-contains : goal.returns-then-contains
returns-then-contains c =
    let host : HasFlag HostShareable (tree_in c.args.context.now c.args.handle) = search rules in
    record {
      storage = (whole_storage (tree_in c.args.context.now c.args.handle) c.requires.whole host, c.requires.aligned);
      uniform = (whole_uniform (tree_in c.args.context.now c.args.handle) c.requires.whole host, c.requires.aligned ∙ whole_alignment (tree_in c.args.context.now c.args.handle) c.requires.whole);
    }

pub returns-else-contains : goal.returns-else-contains
returns-else-contains c =
    let none : ¬ HasFlag HostShareable (tree_in c.args.context.now c.args.handle) = search rules in
    record {
      storage = broken_here BreaksStorage c.args.context.now c.args.handle fault.NonHostShareable none;
      uniform = broken_here BreaksUniform c.args.context.now c.args.handle fault.NonHostShareable none;
    }
