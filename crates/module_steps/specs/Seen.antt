-- The context of the checks of expressions.
use Rattle.module_context.specs.OperandView.{scene_in}
use Rattle.module_context.specs.declared.check_context.CheckContext.{CheckContext}
use Rattle.ir_flags.specs.declared.settings.Capabilities.{Capabilities}
use Rattle.spec_statements.specs.judged.Scene.{Scene}

-- the contents of a context with these capabilities
abbrev pub scene_by : Capabilities → CheckContext → Scene
scene_by capabilities c = record (scene_in c) { capabilities = capabilities }
