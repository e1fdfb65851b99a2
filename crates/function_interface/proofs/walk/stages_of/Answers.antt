use Rattle.ir_blocks.specs.found.View.{block_view}
use Rattle.function_interface.proofs.Runs.{run_by}
use Rattle.function_interface.proofs.walk.stages_of.Goals as goal

pub returns : goal.returns
returns g c = λ stage. run_by c.args.subgroup_stages (g.C.CalleeStages.stages c.args.callees.now) (block_view c.args.body.now) c.all.result.0 c.left_in.result.0 stage (c.all.ensures tt) c.left_in.ensures
