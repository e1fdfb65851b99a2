-- The kinds of expressions and of their parts, with their tags.
use Rattle.std.specs.Prelude.{ℕ, List, [], ◌∷◌, codes}
use Rattle.document_expressions.specs.declared.kinds.ExpressionKind.{ExpressionKind}
use Rattle.document_expressions.specs.declared.kinds.ExpressionKind.TheVariants as expression_kind
use Rattle.document_expressions.specs.declared.kinds.LiteralKind.{LiteralKind}
use Rattle.document_expressions.specs.declared.kinds.LiteralKind.TheVariants as literal_kind
use Rattle.document_expressions.specs.declared.kinds.LevelKind.{LevelKind}
use Rattle.document_expressions.specs.declared.kinds.LevelKind.TheVariants as level_kind
use Rattle.document_expressions.specs.declared.kinds.QueryKind.{QueryKind}
use Rattle.document_expressions.specs.declared.kinds.QueryKind.TheVariants as query_kind

-- the kinds of expressions
abbrev pub expression_kinds : List (List ℕ × ExpressionKind)
expression_kinds =
    (codes "Load", expression_kind.Load) ∷
    (codes "Literal", expression_kind.Literal) ∷
    (codes "AccessIndex", expression_kind.AccessIndex) ∷
    (codes "Access", expression_kind.Access) ∷
    (codes "Binary", expression_kind.Binary) ∷
    (codes "Compose", expression_kind.Compose) ∷
    (codes "GlobalVariable", expression_kind.GlobalVariable) ∷
    (codes "LocalVariable", expression_kind.LocalVariable) ∷
    (codes "FunctionArgument", expression_kind.FunctionArgument) ∷
    (codes "CallResult", expression_kind.CallResult) ∷
    (codes "Splat", expression_kind.Splat) ∷
    (codes "Swizzle", expression_kind.Swizzle) ∷
    (codes "Math", expression_kind.Math) ∷
    (codes "Unary", expression_kind.Unary) ∷
    (codes "Select", expression_kind.Select) ∷
    (codes "As", expression_kind.As) ∷
    (codes "ImageSample", expression_kind.ImageSample) ∷
    (codes "Constant", expression_kind.Constant) ∷
    (codes "ZeroValue", expression_kind.ZeroValue) ∷
    (codes "ImageLoad", expression_kind.ImageLoad) ∷
    (codes "ImageQuery", expression_kind.ImageQuery) ∷
    (codes "Relational", expression_kind.Relational) ∷
    (codes "Derivative", expression_kind.Derivative) ∷
    (codes "AtomicResult", expression_kind.AtomicResult) ∷
    (codes "Override", expression_kind.Override) ∷
    (codes "ArrayLength", expression_kind.ArrayLength) ∷
    (codes "WorkGroupUniformLoadResult", expression_kind.WorkGroupUniformLoadResult) ∷
    (codes "RayQueryProceedResult", expression_kind.RayQueryProceedResult) ∷
    (codes "RayQueryGetIntersection", expression_kind.RayQueryGetIntersection) ∷
    (codes "RayQueryVertexPositions", expression_kind.RayQueryVertexPositions) ∷
    (codes "SubgroupBallotResult", expression_kind.SubgroupBallotResult) ∷
    (codes "SubgroupOperationResult", expression_kind.SubgroupOperationResult) ∷
    (codes "CooperativeLoad", expression_kind.CooperativeLoad) ∷
    (codes "CooperativeMultiplyAdd", expression_kind.CooperativeMultiplyAdd) ∷
    []

-- the scalar types of literals
abbrev pub literal_kinds : List (List ℕ × LiteralKind)
literal_kinds =
    (codes "f32", literal_kind.F32) ∷
    (codes "u32", literal_kind.U32) ∷
    (codes "i32", literal_kind.I32) ∷
    (codes "bool", literal_kind.Bool) ∷
    (codes "aint", literal_kind.AbstractInt) ∷
    (codes "afloat", literal_kind.AbstractFloat) ∷
    (codes "f16", literal_kind.F16) ∷
    (codes "f64", literal_kind.F64) ∷
    (codes "i64", literal_kind.I64) ∷
    (codes "u64", literal_kind.U64) ∷
    (codes "i16", literal_kind.I16) ∷
    (codes "u16", literal_kind.U16) ∷
    []

-- the kinds of sample levels
abbrev pub level_kinds : List (List ℕ × LevelKind)
level_kinds =
    (codes "Auto", level_kind.Auto) ∷
    (codes "Zero", level_kind.Zero) ∷
    (codes "Exact", level_kind.Exact) ∷
    (codes "Bias", level_kind.Bias) ∷
    (codes "Gradient", level_kind.Gradient) ∷
    []

-- the kinds of image queries
abbrev pub query_kinds : List (List ℕ × QueryKind)
query_kinds =
    (codes "Size", query_kind.Size) ∷
    (codes "NumLevels", query_kind.NumLevels) ∷
    (codes "NumLayers", query_kind.NumLayers) ∷
    (codes "NumSamples", query_kind.NumSamples) ∷
    []
