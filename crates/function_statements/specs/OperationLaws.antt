-- A ray statement with an error breaks its rule.
use Rattle.std.specs.Prelude.{ℕ, Option}
use Rattle.typing_errors.specs.declared.error.FunctionError.{FunctionError}
use Rattle.ir_blocks.specs.declared.operations.RayPipelineFunction.{RayPipelineFunction}
use Rattle.ir_blocks.specs.declared.operations.RayQueryFunction.{RayQueryFunction}
use Rattle.function_statements.specs.Payloads.{IsPayloadsFault}
use Rattle.function_statements.specs.RayPipelines.{IsRayPipelineFault}
use Rattle.function_statements.specs.RayQueries.{IsRayQueryFault}
use Rattle.spec_statements.specs.judged.BlockContext.{BlockContext}
use Rattle.spec_statements.specs.judged.Payloads.{PayloadsOK}
use Rattle.spec_statements.specs.judged.RayPipelines.{RayPipelineOK}
use Rattle.spec_statements.specs.judged.RayQueries.{RayQueryOK}

-- The refutation of the rule of each kind.
pub record Refuted (c : BlockContext) (e : FunctionError) : Type 0 where
  pub query : (query : ℕ) (fun : RayQueryFunction) → IsRayQueryFault c query fun e → RayQueryOK c query fun → ⊥
  pub pipeline : (fun : RayPipelineFunction) → IsRayPipelineFault c fun e → RayPipelineOK c fun → ⊥
  pub payloads : (held : Option ℕ) → IsPayloadsFault c.m c.f held e → PayloadsOK c.m c.f held → ⊥

abbrev pub FaultsRefute : Type 0
FaultsRefute = (c : BlockContext) (e : FunctionError) → Refuted c e
