-- Ray tracing pipelines.
use Rattle.std.specs.Prelude.{ℕ, IsSome, IsSomeAnd}
use Rattle.ir_blocks.specs.declared.operations.RayPipelineFunction.{RayPipelineFunction}
use Rattle.ir_blocks.specs.declared.operations.RayPipelineFunction.TheVariants as pipeline
use Rattle.ir_kinds.specs.declared.spaces.AddressSpace.{AddressSpace}
use Rattle.ir_kinds.specs.declared.spaces.AddressSpace.TheVariants as space
use Rattle.spec_statements.specs.judged.BlockContext.{BlockContext, form_at}
use Rattle.spec_statements.specs.judged.Variables.{variable_at}
use Rattle.spec_statements.specs.judged.RayQueries.{structure_of, IsRayDescriptor}

-- the spaces of payloads: `RayPayload` and `IncomingRayPayload`
abbrev pub IsPayloadSpace : AddressSpace → Type 0
IsPayloadSpace s = elim s [ space.RayPayload ↦ Unit {0} | space.IncomingRayPayload ↦ Unit {0} | _ ↦ ⊥ ]

-- The acceleration structure, the ray descriptor, and the payload: a global variable itself, because SPIR-V takes no other
-- pointer there.
pub record TraceOK (c : BlockContext) (acceleration_structure descriptor payload : ℕ) : Type 0 where
  pub structure : IsSome (structure_of (form_at c acceleration_structure))
  pub described : IsRayDescriptor c (form_at c descriptor)
  pub payload_variable : IsSomeAnd (variable_at c.m c.f payload) (λ g. IsPayloadSpace g.space)

abbrev pub RayPipelineOK : BlockContext → RayPipelineFunction → Type 0
RayPipelineOK c (pipeline.TraceRay acceleration_structure descriptor payload) = TraceOK c acceleration_structure descriptor payload
