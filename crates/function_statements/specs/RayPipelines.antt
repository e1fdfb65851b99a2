-- Errors of rays traced by a pipeline.
use Rattle.std.specs.Prelude.{◌≡◌, ◌⊎◌, ℕ, Some, None, IsSomeAnd}
use Rattle.typing_errors.specs.declared.error.FunctionError.{FunctionError}
use Rattle.typing_errors.specs.declared.error.FunctionError.TheVariants as error
use Rattle.ir_blocks.specs.declared.operations.RayPipelineFunction.{RayPipelineFunction}
use Rattle.ir_blocks.specs.declared.operations.RayPipelineFunction.TheVariants as pipeline
use Rattle.spec_statements.specs.judged.BlockContext.{BlockContext, form_at}
use Rattle.spec_statements.specs.judged.RayPipelines.{IsPayloadSpace}
use Rattle.spec_statements.specs.judged.RayQueries.{structure_of, IsRayDescriptor}
use Rattle.spec_statements.specs.judged.Stores.{pointer_space}
use Rattle.spec_statements.specs.judged.Variables.{variable_at}

-- a global variable in an address space of payloads
abbrev pub IsPayload : BlockContext → (payload : ℕ) → Type 0
IsPayload c payload = IsSomeAnd (variable_at c.m c.f payload) (λ g. IsPayloadSpace g.space)

-- otherwise it is not a pointer, points into another address space, or is not itself a variable
abbrev pub IsPayloadFault : BlockContext → (payload : ℕ) → FunctionError → Type 0
IsPayloadFault c payload error.InvalidPayloadType = (pointer_space (form_at c payload) ≡ None) × ¬ IsPayload c payload
IsPayloadFault c payload (error.InvalidPayloadAddressSpace space) =
    (pointer_space (form_at c payload) ≡ Some space) × (¬ IsPayloadSpace space) × ¬ IsPayload c payload
IsPayloadFault c payload error.PayloadPointerNotGlobal = IsSomeAnd (pointer_space (form_at c payload)) IsPayloadSpace × ¬ IsPayload c payload
IsPayloadFault c payload _ = ⊥

-- it has no acceleration structure, or no ray descriptor
abbrev pub IsRayFault : BlockContext → (structure descriptor : ℕ) → FunctionError → Type 0
IsRayFault c structure descriptor (error.InvalidAccelerationStructure e) = (e ≡ structure) × (structure_of (form_at c structure) ≡ None)
IsRayFault c structure descriptor (error.InvalidRayDescriptor e) = (e ≡ descriptor) × ¬ IsRayDescriptor c (form_at c descriptor)
IsRayFault c structure descriptor _ = ⊥

abbrev pub IsTraceFault : BlockContext → (structure descriptor payload : ℕ) → FunctionError → Type 0
IsTraceFault c structure descriptor payload e = IsRayFault c structure descriptor e ⊎ IsPayloadFault c payload e

abbrev pub IsRayPipelineFault : BlockContext → RayPipelineFunction → FunctionError → Type 0
IsRayPipelineFault c (pipeline.TraceRay structure descriptor payload) e = IsTraceFault c structure descriptor payload e
