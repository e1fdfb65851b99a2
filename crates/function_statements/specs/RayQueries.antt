-- Errors of operations on ray queries.
use Rattle.std.specs.Prelude.{◌≡◌, ◌⊎◌, ℕ, Some, None, Bool, IsSomeAnd, option_and_then}
use Rattle.typing_errors.specs.declared.error.FunctionError.{FunctionError}
use Rattle.typing_errors.specs.declared.error.FunctionError.TheVariants as error
use Rattle.ir_blocks.specs.declared.operations.RayQueryFunction.{RayQueryFunction}
use Rattle.ir_blocks.specs.declared.operations.RayQueryFunction.TheVariants as ray
use Rattle.spec_statements.specs.judged.ExpressionRayQueries.{query_of}
use Rattle.spec_statements.specs.judged.Shapes.{IsMadeOf, IsScalarShape, IsFloating}
use Rattle.spec_statements.specs.judged.BlockContext.{BlockContext, form_at}
use Rattle.spec_statements.specs.judged.RayQueries.{structure_of, IsRayDescriptor, local_type_at, GivesVertices}
use Rattle.typing_forms.specs.judged.Resolutions.{inner_at}

-- ---- steps

abbrev pub IsStartFault : BlockContext → (query : ℕ) → (vertices : Bool) → (structure descriptor : ℕ) → FunctionError → Type 0
IsStartFault c query vertices structure descriptor (error.InvalidAccelerationStructure e) = (e ≡ structure) × (structure_of (form_at c structure) ≡ None)
IsStartFault c query vertices structure descriptor (error.MissingAccelerationStructureVertexReturn e asked) =
    (e ≡ structure) × (asked ≡ query) × IsSomeAnd (structure_of (form_at c structure)) (λ given. ¬ GivesVertices vertices given)
IsStartFault c query vertices structure descriptor (error.InvalidRayDescriptor e) = (e ≡ descriptor) × ¬ IsRayDescriptor c (form_at c descriptor)
IsStartFault c query vertices structure descriptor _ = ⊥

abbrev pub IsDistanceFault : BlockContext → (hit_t : ℕ) → FunctionError → Type 0
IsDistanceFault c hit_t (error.InvalidHitDistanceType e) = (e ≡ hit_t) × ¬ IsMadeOf IsScalarShape IsFloating (form_at c hit_t)
IsDistanceFault c hit_t _ = ⊥

abbrev pub IsStepFault : BlockContext → (query : ℕ) → (vertices : Bool) → RayQueryFunction → FunctionError → Type 0
IsStepFault c query vertices (ray.Initialize structure descriptor) e = IsStartFault c query vertices structure descriptor e
IsStepFault c query vertices (ray.Proceed result) e = ⊥
IsStepFault c query vertices (ray.GenerateIntersection hit_t) e = IsDistanceFault c hit_t e
IsStepFault c query vertices ray.ConfirmIntersection e = ⊥
IsStepFault c query vertices ray.Terminate e = ⊥

-- ---- the rule

-- it is not a local variable, or has another type
abbrev pub IsVariableFault : BlockContext → (query : ℕ) → FunctionError → Type 0
IsVariableFault c query (error.InvalidRayQueryExpression e) = (e ≡ query) × (local_type_at c.f query ≡ None)
IsVariableFault c query (error.InvalidRayQueryType type) = (local_type_at c.f query ≡ Some type) × (query_of (inner_at c.m.types type) ≡ None)
IsVariableFault c query _ = ⊥

-- that, or an error of the operation
abbrev pub IsRayQueryFault : BlockContext → (query : ℕ) → RayQueryFunction → FunctionError → Type 0
IsRayQueryFault c query fun e = IsVariableFault c query e
    ⊎ IsSomeAnd (option_and_then (λ t. query_of (inner_at c.m.types t)) (local_type_at c.f query)) (λ vertices. IsStepFault c query vertices fun e)
