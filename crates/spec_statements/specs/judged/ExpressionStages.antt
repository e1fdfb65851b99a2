-- The stages that may run an expression.
use Rattle.std.specs.Prelude.{◌≡◌, ℕ, List, Some, slice_get, unwrap_or}
use Rattle.bitflags.specs.Sets.{known_bits}
use Rattle.ir_flags.specs.Words.{shader_stage_bits}
use Rattle.ir_flags.specs.declared.stages.ShaderStages.{ShaderStages}
use Rattle.ir_flags.specs.declared.stages.TheConstants.ShaderStages.{FRAGMENT}
use Rattle.ir_types.specs.judged.ExpressionPlain.{PlainExpression}
use Rattle.ir_types.specs.declared.expressions.SampleLevel.{SampleLevel}
use Rattle.ir_types.specs.declared.expressions.SampleLevel.TheVariants.{Auto, Zero, Exact, Bias, Gradient}
use Rattle.spec_expressions.specs.judged.Kinds.{StageRule, any_stage, only, by_level, by_callee, by_subgroups, row_of_expression}

abbrev pub all_stages : ShaderStages
all_stages = record { 0 = known_bits shader_stage_bits }

-- an implicit level of detail is for fragment shaders only
abbrev pub sample_stages : SampleLevel → ShaderStages
sample_stages Auto = FRAGMENT
sample_stages Zero = all_stages
sample_stages (Exact level) = all_stages
sample_stages (Bias bias) = FRAGMENT
sample_stages (Gradient right below) = all_stages

-- the stages that may run a callee
abbrev pub callee_stages : (callees : List ShaderStages) → (function : ℕ) → ShaderStages
callee_stages callees function = unwrap_or (slice_get callees function) all_stages

-- `subgroups` are the stages that support subgroup operations, and `callees` those that may run the module's functions
abbrev pub stages_under : (subgroups : ShaderStages) → (callees : List ShaderStages) → StageRule → ShaderStages
stages_under subgroups callees any_stage = all_stages
stages_under subgroups callees (only stages) = stages
stages_under subgroups callees (by_level level) = sample_stages level
stages_under subgroups callees (by_callee function) = callee_stages callees function
stages_under subgroups callees by_subgroups = subgroups

abbrev pub stages_of : (callees : List ShaderStages) → PlainExpression → ShaderStages
stages_of callees x = stages_under all_stages callees (row_of_expression x).stages

-- these stages may run the expression at a handle
pub record IsRunBy (callees : List ShaderStages) (expressions : List PlainExpression) (handle : ℕ) (stages : ShaderStages) : Type 0 where
  pub expression : PlainExpression
  pub at : slice_get expressions handle ≡ Some expression
  pub run_by : stages ≡ stages_of callees expression
