-- The encoding relations of expressions: each kind by its tag and the elements after it.
use Rattle.std.specs.Prelude.{◌≡◌, List, [], ◌∷◌, Some, map, length, codes}
use Rattle.serde_json.specs.Data.{Data, string, Items}
use Rattle.ir_kinds.specs.declared.values.Literal.{Literal}
use Rattle.ir_kinds.specs.declared.values.Literal.TheVariants as literal
use Rattle.ir_kinds.specs.declared.scalars.SwizzleComponent.{SwizzleComponent}
use Rattle.ir_types.specs.declared.expressions.SampleLevel.{SampleLevel}
use Rattle.ir_types.specs.declared.expressions.SampleLevel.TheVariants as level
use Rattle.ir_types.specs.declared.expressions.ImageQuery.{ImageQuery}
use Rattle.ir_types.specs.declared.expressions.ImageQuery.TheVariants as query
use Rattle.ir_types.specs.judged.ExpressionPlain.{PlainExpression, compose, plain}
use Rattle.ir_types.specs.declared.expressions.Expression.TheVariants as e
use Rattle.document_words.specs.Lookup.{lookup}
use Rattle.document_words.specs.Tables.{letters, cooperative_roles, unary_operators, binary_operators, derivative_axes, derivative_controls, relational_functions, math_functions, scalar_kinds}
use Rattle.document_forms.specs.judged.Form.{ANumber, AHandle, AU32, ASigned, AVectorSize, ACooperativeSize, ABool, AText, AWord, Maybe, AList, Ends, ◌▸◌, ◌with◌}
use Rattle.document_forms.specs.declared.limits.TheConstants.{MAX_U8, MAX_U16, MAX_U64, MAX_I16, MAX_I32, MAX_I64}

-- ---- literals

-- a literal: the word of its scalar type, then a bool, an integer, or the bits of a float
abbrev pub ALiteral : Literal → Items → Type 0
ALiteral (literal.Bool v) = AText (codes "bool") ▸ ABool v ▸ Ends
ALiteral (literal.I16 v) = AText (codes "i16") ▸ ASigned MAX_I16 v ▸ Ends
ALiteral (literal.U16 v) = AText (codes "u16") ▸ ANumber MAX_U16 v ▸ Ends
ALiteral (literal.I32 v) = AText (codes "i32") ▸ ASigned MAX_I32 v ▸ Ends
ALiteral (literal.U32 v) = AText (codes "u32") ▸ AU32 v ▸ Ends
ALiteral (literal.I64 v) = AText (codes "i64") ▸ ASigned MAX_I64 v ▸ Ends
ALiteral (literal.U64 v) = AText (codes "u64") ▸ ANumber MAX_U64 v ▸ Ends
ALiteral (literal.F16 v) = AText (codes "f16") ▸ ANumber MAX_U16 v ▸ Ends
ALiteral (literal.F32 v) = AText (codes "f32") ▸ AU32 v ▸ Ends
ALiteral (literal.F64 v) = AText (codes "f64") ▸ ANumber MAX_U64 v ▸ Ends
ALiteral (literal.AbstractInt v) = AText (codes "aint") ▸ ASigned MAX_I64 v ▸ Ends
ALiteral (literal.AbstractFloat v) = AText (codes "afloat") ▸ ANumber MAX_U64 v ▸ Ends

-- ---- sample levels and image queries

abbrev pub ASampleLevel : SampleLevel → Data → Type 0
ASampleLevel level.Auto = "Auto" with Ends
ASampleLevel level.Zero = "Zero" with Ends
ASampleLevel (level.Exact value) = "Exact" with AHandle value ▸ Ends
ASampleLevel (level.Bias value) = "Bias" with AHandle value ▸ Ends
ASampleLevel (level.Gradient x y) = "Gradient" with AHandle x ▸ AHandle y ▸ Ends

abbrev pub AnImageQuery : ImageQuery → Data → Type 0
AnImageQuery (query.Size level) = "Size" with Maybe AHandle level ▸ Ends
AnImageQuery query.NumLevels = "NumLevels" with Ends
AnImageQuery query.NumLayers = "NumLayers" with Ends
AnImageQuery query.NumSamples = "NumSamples" with Ends

-- ---- swizzle patterns

-- a string of four letters
abbrev pub APattern : List SwizzleComponent → Data → Type 0
APattern cs (string w) = (map (λ l. lookup (l ∷ []) letters) w ≡ map Some cs) × (length cs ≡ 4)
APattern cs _ = ⊥

-- ---- expressions

unfoldable pub AnExpression : PlainExpression → Data → Type 0
AnExpression (plain (e.Literal l)) = "Literal" with ALiteral l
AnExpression (plain (e.Constant handle)) = "Constant" with AHandle handle ▸ Ends
AnExpression (plain (e.Override handle)) = "Override" with AHandle handle ▸ Ends
AnExpression (plain (e.ZeroValue ty)) = "ZeroValue" with AHandle ty ▸ Ends
AnExpression (plain (e.Access base index)) = "Access" with AHandle base ▸ AHandle index ▸ Ends
AnExpression (plain (e.AccessIndex base index)) = "AccessIndex" with AHandle base ▸ AU32 index ▸ Ends
AnExpression (plain (e.Splat size value)) = "Splat" with AVectorSize size ▸ AHandle value ▸ Ends
AnExpression (plain (e.Swizzle size vector pattern)) = "Swizzle" with AVectorSize size ▸ AHandle vector ▸ APattern pattern ▸ Ends
AnExpression (plain (e.FunctionArgument index)) = "FunctionArgument" with AU32 index ▸ Ends
AnExpression (plain (e.GlobalVariable handle)) = "GlobalVariable" with AHandle handle ▸ Ends
AnExpression (plain (e.LocalVariable handle)) = "LocalVariable" with AHandle handle ▸ Ends
AnExpression (plain (e.Load pointer)) = "Load" with AHandle pointer ▸ Ends
AnExpression (plain (e.ImageSample image sampler gather coordinate array_index offset level depth_ref clamp_to_edge)) = "ImageSample" with AHandle image ▸
    AHandle sampler ▸ Maybe (AWord letters) gather ▸ AHandle coordinate ▸ Maybe AHandle array_index ▸ Maybe AHandle offset ▸ ASampleLevel level ▸
    Maybe AHandle depth_ref ▸ ABool clamp_to_edge ▸ Ends
AnExpression (plain (e.ImageLoad image coordinate array_index sample level)) = "ImageLoad" with AHandle image ▸ AHandle coordinate ▸
    Maybe AHandle array_index ▸ Maybe AHandle sample ▸ Maybe AHandle level ▸ Ends
AnExpression (plain (e.ImageQuery image query)) = "ImageQuery" with AHandle image ▸ AnImageQuery query ▸ Ends
AnExpression (plain (e.Unary op expr)) = "Unary" with AWord unary_operators op ▸ AHandle expr ▸ Ends
AnExpression (plain (e.Binary op left right)) = "Binary" with AWord binary_operators op ▸ AHandle left ▸ AHandle right ▸ Ends
AnExpression (plain (e.Select condition accept reject)) = "Select" with AHandle condition ▸ AHandle accept ▸ AHandle reject ▸ Ends
AnExpression (plain (e.Derivative axis ctrl expr)) = "Derivative" with AWord derivative_axes axis ▸ AWord derivative_controls ctrl ▸ AHandle expr ▸ Ends
AnExpression (plain (e.Relational fun argument)) = "Relational" with AWord relational_functions fun ▸ AHandle argument ▸ Ends
AnExpression (plain (e.Math fun a b c d)) = "Math" with AWord math_functions fun ▸ AHandle a ▸ Maybe AHandle b ▸ Maybe AHandle c ▸ Maybe AHandle d ▸ Ends
AnExpression (plain (e.As expr kind convert)) = "As" with AHandle expr ▸ AWord scalar_kinds kind ▸ Maybe (ANumber MAX_U8) convert ▸ Ends
AnExpression (plain (e.CallResult function)) = "CallResult" with AHandle function ▸ Ends
AnExpression (plain (e.AtomicResult ty comparison)) = "AtomicResult" with AHandle ty ▸ ABool comparison ▸ Ends
AnExpression (plain (e.WorkGroupUniformLoadResult ty)) = "WorkGroupUniformLoadResult" with AHandle ty ▸ Ends
AnExpression (plain (e.ArrayLength pointer)) = "ArrayLength" with AHandle pointer ▸ Ends
AnExpression (plain (e.RayQueryVertexPositions query committed)) = "RayQueryVertexPositions" with AHandle query ▸ ABool committed ▸ Ends
AnExpression (plain e.RayQueryProceedResult) = "RayQueryProceedResult" with Ends
AnExpression (plain (e.RayQueryGetIntersection query committed)) = "RayQueryGetIntersection" with AHandle query ▸ ABool committed ▸ Ends
AnExpression (plain e.SubgroupBallotResult) = "SubgroupBallotResult" with Ends
AnExpression (plain (e.SubgroupOperationResult ty)) = "SubgroupOperationResult" with AHandle ty ▸ Ends
AnExpression (plain (e.CooperativeLoad columns rows role block)) = "CooperativeLoad" with ACooperativeSize columns ▸ ACooperativeSize rows ▸
    AWord cooperative_roles role ▸ AHandle block.pointer ▸ AHandle block.stride ▸ ABool block.row_major ▸ Ends
AnExpression (plain (e.CooperativeMultiplyAdd a b c)) = "CooperativeMultiplyAdd" with AHandle a ▸ AHandle b ▸ AHandle c ▸ Ends
AnExpression (compose ty components) = "Compose" with AHandle ty ▸ AList AHandle components ▸ Ends
AnExpression (plain (e.Compose ty components)) = λ d. ⊥
