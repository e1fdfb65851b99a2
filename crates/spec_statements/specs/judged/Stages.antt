-- The stages that may run a statement.
use Rattle.std.specs.Prelude.{List}
use Rattle.ir_blocks.specs.judged.Plain.{PlainStatement}
use Rattle.ir_flags.specs.declared.stages.ShaderStages.{ShaderStages}
use Rattle.spec_expressions.specs.judged.Kinds.{statement_row}
use Rattle.spec_statements.specs.judged.ExpressionStages.{stages_under}

-- nested statements count separately
abbrev pub statement_stages : (subgroups : ShaderStages) → (callees : List ShaderStages) → PlainStatement → ShaderStages
statement_stages subgroups callees s = stages_under subgroups callees (statement_row s).stages
