-- Which stages may run a body.
use Rattle.std.specs.Prelude.{ℕ, List}
use Rattle.ir_blocks.specs.judged.Places.{Place, OccursAt}
use Rattle.ir_blocks.specs.judged.Plain.{PlainBlock, PlainStatement}
use Rattle.ir_flags.specs.Sets.{Has}
use Rattle.ir_flags.specs.declared.stages.ShaderStages.{ShaderStages}
use Rattle.spec_statements.specs.judged.ExpressionStages.{all_stages}
use Rattle.spec_statements.specs.judged.Stages.{statement_stages}

-- the stage exists, and may run each statement of the body, at any depth
pub record MayRun (subgroups : ShaderStages) (callees : List ShaderStages) (body : PlainBlock) (stage : ℕ) : Type 0 where
  pub known : Has all_stages.0 stage
  pub each : (p : Place) (u : PlainStatement) → OccursAt body p u → Has (statement_stages subgroups callees u).0 stage
