-- What follows rays with a fault does not meet its rule.
use Rattle.std.proofs.Common.{◌≡◌, ◌≢◌, ◌⊎◌, ℕ, Option, Some, None, Bool, true≢false, IsSomeAnd, IsSome, inl, inr, sym, subst}
use Rattle.std.specs.Prelude.{option_and_then}
use Rattle.typing_errors.specs.declared.error.FunctionError.{FunctionError}
use Rattle.typing_errors.specs.declared.error.FunctionError.TheVariants as error
use Rattle.ir_blocks.specs.declared.operations.RayPipelineFunction.{RayPipelineFunction}
use Rattle.ir_blocks.specs.declared.operations.RayPipelineFunction.TheVariants as pipeline
use Rattle.ir_blocks.specs.declared.operations.RayQueryFunction.{RayQueryFunction}
use Rattle.ir_blocks.specs.declared.operations.RayQueryFunction.TheVariants as ray
use Rattle.function_statements.proofs.PayloadLemmas.{traced_has}
use Rattle.function_statements.specs.OperationLaws.{FaultsRefute}
use Rattle.ir_blocks.specs.judged.Places.{Place}
use Rattle.ir_items.specs.judged.Plain.{PlainFunction, PlainModule}
use Rattle.function_statements.specs.Payloads.{IsPayloadsFaultAt}
use Rattle.spec_statements.specs.judged.Payloads.{HasPayload, PayloadsOK}
use Rattle.function_statements.specs.RayPipelines.{IsPayloadFault, IsRayFault, IsTraceFault, IsRayPipelineFault}
use Rattle.function_statements.specs.RayQueries.{IsStartFault, IsDistanceFault, IsStepFault, IsVariableFault, IsRayQueryFault}
use Rattle.spec_statements.specs.judged.ExpressionRayQueries.{query_of}
use Rattle.spec_statements.specs.judged.BlockContext.{BlockContext, form_at}
use Rattle.spec_statements.specs.judged.RayPipelines.{TraceOK, RayPipelineOK}
use Rattle.spec_statements.specs.judged.RayQueries.{structure_of, local_type_at, RayStepOK, RayQueryOK}
use Rattle.typing_forms.specs.judged.Resolutions.{inner_at}

-- ---- what is there

module _ {A : Type 0} where
  missing : (o : Option A) (P : A → Type 0) → o ≡ None → IsSomeAnd o P → ⊥
  missing None P is there = there
  missing (Some x) P is there = absurd (let e = is in cc)

  absent : (o : Option A) → o ≡ None → IsSome o → ⊥
  absent None is there = true≢false (sym there)
  absent (Some x) is there = absurd (let e = is in cc)

  both : (o : Option A) (P Q : A → Type 0) → ((x : A) → P x → Q x → ⊥) → IsSomeAnd o P → IsSomeAnd o Q → ⊥
  both None P Q apart p q = p
  both (Some x) P Q apart p q = apart x p q

-- ---- queries

start_refuted : (c : BlockContext) (query : ℕ) (vertices : Bool) (structure descriptor : ℕ) (e : FunctionError)
    → IsStartFault c query vertices structure descriptor e → RayStepOK c vertices (ray.Initialize structure descriptor) → ⊥
start_refuted c query vertices structure descriptor (error.InvalidAccelerationStructure x) wrong ok = missing _ _ wrong.1 ok.0
start_refuted c query vertices structure descriptor (error.MissingAccelerationStructureVertexReturn x asked) wrong ok =
    both (structure_of (form_at c structure)) _ _ (λ given never gives. never gives) wrong.2 ok.0
start_refuted c query vertices structure descriptor (error.InvalidRayDescriptor x) wrong ok = wrong.1 ok.1
start_refuted c query vertices structure descriptor _ wrong ok = wrong

distance_refuted : (c : BlockContext) (vertices : Bool) (hit_t : ℕ) (e : FunctionError) → IsDistanceFault c hit_t e → RayStepOK c vertices (ray.GenerateIntersection hit_t) → ⊥
distance_refuted c vertices hit_t (error.InvalidHitDistanceType x) wrong ok = wrong.1 ok
distance_refuted c vertices hit_t _ wrong ok = wrong

step_refuted : (c : BlockContext) (query : ℕ) (vertices : Bool) (fun : RayQueryFunction) (e : FunctionError) → IsStepFault c query vertices fun e → RayStepOK c vertices fun → ⊥
step_refuted c query vertices (ray.Initialize structure descriptor) e wrong ok = start_refuted c query vertices structure descriptor e wrong ok
step_refuted c query vertices (ray.GenerateIntersection hit_t) e wrong ok = distance_refuted c vertices hit_t e wrong ok
step_refuted c query vertices (ray.Proceed result) e wrong ok = wrong
step_refuted c query vertices ray.ConfirmIntersection e wrong ok = wrong
step_refuted c query vertices ray.Terminate e wrong ok = wrong

-- a variable of the function that is no ray query
no_query : (c : BlockContext) (o : Option ℕ) (type : ℕ) (P : Bool → Type 0) → o ≡ Some type → query_of (inner_at c.m.types type) ≡ None
    → IsSomeAnd (option_and_then (λ t. query_of (inner_at c.m.types t)) o) P → ⊥
no_query c None type P is none ok = ok
no_query c (Some t) type P is none ok =
    let same : t ≡ type = (let e = is in cc) in missing (query_of (inner_at c.m.types t)) P (subst (λ x. query_of (inner_at c.m.types x) ≡ None) (sym same) none) ok

no_variable : (c : BlockContext) (o : Option ℕ) (P : Bool → Type 0) → o ≡ None → IsSomeAnd (option_and_then (λ t. query_of (inner_at c.m.types t)) o) P → ⊥
no_variable c None P is ok = ok
no_variable c (Some t) P is ok = absurd (let e = is in cc)

variable_refuted : (c : BlockContext) (query : ℕ) (fun : RayQueryFunction) (e : FunctionError) → IsVariableFault c query e → RayQueryOK c query fun → ⊥
variable_refuted c query fun (error.InvalidRayQueryExpression x) wrong ok = no_variable c (local_type_at c.f query) _ wrong.1 ok
variable_refuted c query fun (error.InvalidRayQueryType type) wrong ok = no_query c (local_type_at c.f query) type _ wrong.0 wrong.1 ok
variable_refuted c query fun _ wrong ok = wrong

query_refuted : (c : BlockContext) (query : ℕ) (fun : RayQueryFunction) (e : FunctionError) → IsRayQueryFault c query fun e → RayQueryOK c query fun → ⊥
query_refuted c query fun e (inl wrong) ok = variable_refuted c query fun e wrong ok
query_refuted c query fun e (inr wrong) ok =
    both (option_and_then (λ t. query_of (inner_at c.m.types t)) (local_type_at c.f query)) _ _ (λ vertices. step_refuted c query vertices fun e) wrong ok

-- ---- pipelines

payload_refuted : (c : BlockContext) (structure descriptor payload : ℕ) (e : FunctionError) → IsPayloadFault c payload e → TraceOK c structure descriptor payload → ⊥
payload_refuted c structure descriptor payload error.InvalidPayloadType wrong ok = wrong.1 ok.payload_variable
payload_refuted c structure descriptor payload (error.InvalidPayloadAddressSpace space) wrong ok = wrong.2 ok.payload_variable
payload_refuted c structure descriptor payload error.PayloadPointerNotGlobal wrong ok = wrong.1 ok.payload_variable
payload_refuted c structure descriptor payload _ wrong ok = wrong

ray_refuted : (c : BlockContext) (structure descriptor payload : ℕ) (e : FunctionError) → IsRayFault c structure descriptor e → TraceOK c structure descriptor payload → ⊥
ray_refuted c structure descriptor payload (error.InvalidAccelerationStructure x) wrong ok = absent _ wrong.1 ok.structure
ray_refuted c structure descriptor payload (error.InvalidRayDescriptor x) wrong ok = wrong.1 ok.described
ray_refuted c structure descriptor payload _ wrong ok = wrong

trace_refuted : (c : BlockContext) (structure descriptor payload : ℕ) (e : FunctionError) → IsTraceFault c structure descriptor payload e → TraceOK c structure descriptor payload → ⊥
trace_refuted c structure descriptor payload e (inl wrong) ok = ray_refuted c structure descriptor payload e wrong ok
trace_refuted c structure descriptor payload e (inr wrong) ok = payload_refuted c structure descriptor payload e wrong ok

pipeline_refuted : (c : BlockContext) (fun : RayPipelineFunction) (e : FunctionError) → IsRayPipelineFault c fun e → RayPipelineOK c fun → ⊥
pipeline_refuted c (pipeline.TraceRay structure descriptor payload) e wrong ok = trace_refuted c structure descriptor payload e wrong ok

-- ---- payloads

earlier_refuted : (m : PlainModule) (f : PlainFunction) (held : Option ℕ) (type before : ℕ) → HasPayload m f type → type ≢ before → PayloadsOK m f held
    → (held ≡ Some before) ⊎ ((held ≡ None) × HasPayload m f before) → ⊥
earlier_refuted m f held type before traced differs ok (inl is) = differs (ok.as_before type before traced is)
earlier_refuted m f held type before traced differs ok (inr own) = differs (ok.one type before traced own.1)

payloads_refuted : (m : PlainModule) (f : PlainFunction) (held : Option ℕ) (e : FunctionError) (p : Place) → IsPayloadsFaultAt m f held e p → PayloadsOK m f held → ⊥
payloads_refuted m f held (error.MismatchedPayloadType type before) p wrong ok = earlier_refuted m f held type before (traced_has m f p type wrong.traced) wrong.differs ok wrong.earlier
payloads_refuted m f held _ p wrong ok = absurd wrong

pub faults_refute_lem : FaultsRefute
faults_refute_lem c e = record {
  query = λ query fun. query_refuted c query fun e;
  pipeline = λ fun. pipeline_refuted c fun e;
  payloads = λ held wrong. payloads_refuted c.m c.f held e wrong.0 wrong.1;
}
