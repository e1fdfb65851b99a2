-- Ray query statements, and acceleration structures.
use Rattle.std.specs.Prelude.{◌≡◌, ℕ, List, Option, Some, None, Bool, true, IsSomeAnd, option_and_then, option_map, slice_get}
use Rattle.ir_blocks.specs.declared.operations.RayQueryFunction.{RayQueryFunction}
use Rattle.ir_blocks.specs.declared.operations.RayQueryFunction.TheVariants as ray
use Rattle.ir_types.specs.judged.ExpressionPlain.{PlainExpression, plain}
use Rattle.ir_types.specs.declared.expressions.Expression.TheVariants as x
use Rattle.spec_expressions.specs.IrItems.{PlainFunction}
use Rattle.ir_types.specs.judged.Plain.{PlainType}
use Rattle.spec_expressions.specs.TypingForms.{form_of_type, inner_at, Form}
use Rattle.spec_expressions.specs.TypingForms.form as form
use Rattle.spec_statements.specs.judged.ExpressionRayQueries.{query_of}
use Rattle.spec_statements.specs.judged.Shapes.{IsMadeOf, IsScalarShape, IsFloating}
use Rattle.spec_statements.specs.judged.BlockContext.{BlockContext, form_at}

-- ---- acceleration structures

-- whether an acceleration structure has `vertex_return`
abbrev pub structure_of : Form → Option Bool
structure_of t = elim t [ form.AccelerationStructure vertex_return ↦ Some vertex_return | _ ↦ None ]

-- The ray descriptor has the module's special type: a struct with the same members, names of types aside, and any
-- other type with the same canonical form.
abbrev pub IsMadeAs : List PlainType → (declared : ℕ) → Form → Type 0
IsMadeAs types declared (form.Struct handle) = inner_at types handle ≡ inner_at types declared
IsMadeAs types declared form.Nothing = ⊥
IsMadeAs types declared other = other ≡ form_of_type types declared

abbrev pub IsRayDescriptor : BlockContext → (descriptor : Form) → Type 0
IsRayDescriptor c descriptor = IsSomeAnd c.m.special.ray_desc (λ declared. IsMadeAs c.m.types declared descriptor)

-- ---- queries

-- the type of the local variable that an expression is
abbrev pub local_of : PlainExpression → Option ℕ
local_of e = elim e [ plain (x.LocalVariable local) ↦ Some local | _ ↦ None ]

abbrev pub local_type_at : PlainFunction → ℕ → Option ℕ
local_type_at f e = option_and_then (λ l. option_map (λ v. v.ty) (slice_get f.locals l)) (option_and_then local_of (slice_get f.expressions e))

-- a query with `vertex_return` needs an acceleration structure with it
abbrev pub GivesVertices : (asked given : Bool) → Type 0
GivesVertices asked given = asked ≡ true → given ≡ true

-- vertices: the query has `vertex_return`
abbrev pub RayStepOK : BlockContext → (vertices : Bool) → RayQueryFunction → Type 0
RayStepOK c vertices (ray.Initialize acceleration_structure descriptor) =
    IsSomeAnd (structure_of (form_at c acceleration_structure)) (GivesVertices vertices) × IsRayDescriptor c (form_at c descriptor)
RayStepOK c vertices (ray.Proceed result) = Unit {0}
RayStepOK c vertices (ray.GenerateIntersection hit_t) = IsMadeOf IsScalarShape IsFloating (form_at c hit_t)
RayStepOK c vertices ray.ConfirmIntersection = Unit {0}
RayStepOK c vertices ray.Terminate = Unit {0}

-- the query is a local variable of the function
abbrev pub RayQueryOK : BlockContext → (query : ℕ) → RayQueryFunction → Type 0
RayQueryOK c query fun = IsSomeAnd (option_and_then (λ t. query_of (inner_at c.m.types t)) (local_type_at c.f query)) (λ vertices. RayStepOK c vertices fun)
