-- The rules of each math function, in order.
use Rattle.std.specs.Prelude.{List, [], ◌∷◌, ◌++◌, Option, Some, None, map}
use Rattle.std.specs.List.{flat_map}
use Rattle.ir_kinds.specs.declared.maths.MathFunction.{MathFunction}
use Rattle.ir_kinds.specs.declared.maths.MathFunction.TheVariants as math
use Rattle.ir_kinds.specs.declared.predeclared.PredeclaredType.TheVariants.{ModfResult, FrexpResult}
use Rattle.ir_kinds.specs.declared.scalars.Scalar.{Scalar}
use Rattle.ir_kinds.specs.declared.scalars.VectorSize.{VectorSize}
use Rattle.ir_kinds.specs.declared.scalars.VectorSize.TheVariants.{Bi, Tri, Quad}
use Rattle.ir_kinds.specs.judged.Scalars.{signed, unsigned, floating, abstract_int, abstract_float}
use Rattle.typing_rules.specs.declared.patterns.Pattern.{Pattern}
use Rattle.typing_rules.specs.declared.patterns.Pattern.TheVariants.{Same, SameTwo, SameThree, ToScalar, TwoToScalar, WithScalar, WithExponent, WithRange, TwoWithRange, ToFraction, ToExponent, ToOuter, ToTransposed, ToWord, FromWord, FromTwoWords}
use Rattle.typing_rules.specs.declared.rules.Arguments.{Arguments}
use Rattle.typing_rules.specs.declared.rules.Arguments.TheVariants.{One, Two, Three, Four}
use Rattle.typing_rules.specs.declared.rules.Conclusion.{Conclusion}
use Rattle.typing_rules.specs.declared.rules.Conclusion.TheVariants.{Value, Predeclared}
use Rattle.typing_rules.specs.declared.rules.ConstructorSize.{ConstructorSize}
use Rattle.typing_rules.specs.declared.rules.ConstructorSize.TheVariants as size
use Rattle.typing_rules.specs.declared.rules.Rule.{Rule}
use Rattle.typing_rules.specs.declared.rules.ValueType.{ValueType}
use Rattle.typing_rules.specs.judged.Types.{value_type}

-- ---- scalars

abbrev pub i32 : Scalar
i32 = signed 4

abbrev pub u32 : Scalar
u32 = unsigned 4

abbrev pub f32 : Scalar
f32 = floating 4

-- all numeric scalars
abbrev pub numbers : List Scalar
numbers = abstract_int ∷ i32 ∷ u32 ∷ signed 2 ∷ unsigned 2 ∷ signed 8 ∷ unsigned 8 ∷ abstract_float ∷ f32 ∷ floating 2 ∷ floating 8 ∷ []

-- all numeric scalars but the unsigned integers
abbrev pub signed_numbers : List Scalar
signed_numbers = abstract_int ∷ i32 ∷ signed 2 ∷ signed 8 ∷ abstract_float ∷ f32 ∷ floating 2 ∷ floating 8 ∷ []

-- all floats
abbrev pub floats : List Scalar
floats = abstract_float ∷ f32 ∷ floating 2 ∷ floating 8 ∷ []

-- all concrete integers
abbrev pub integers : List Scalar
integers = i32 ∷ u32 ∷ signed 2 ∷ unsigned 2 ∷ signed 8 ∷ unsigned 8 ∷ []

-- ---- shapes

abbrev pub vec2 : ConstructorSize
vec2 = size.Vector Bi

abbrev pub vec3 : ConstructorSize
vec3 = size.Vector Tri

abbrev pub vec4 : ConstructorSize
vec4 = size.Vector Quad

abbrev pub vectors : List ConstructorSize
vectors = vec2 ∷ vec3 ∷ vec4 ∷ []

-- scalars and vectors
abbrev pub scalars_and_vectors : List ConstructorSize
scalars_and_vectors = size.Scalar ∷ vectors

abbrev pub square_matrices : List ConstructorSize
square_matrices = size.Matrix Bi Bi ∷ size.Matrix Tri Tri ∷ size.Matrix Quad Quad ∷ []

-- matrices by columns, then rows
abbrev pub matrices : List ConstructorSize
matrices = flat_map (λ columns. map (λ rows. size.Matrix columns rows) (Bi ∷ Tri ∷ Quad ∷ [])) (Bi ∷ Tri ∷ Quad ∷ [])

-- ---- one rule, for a shape and a scalar

-- a vector with one component for each column of a matrix
abbrev pub vector_of_columns : ConstructorSize → ConstructorSize
vector_of_columns o = elim o [ size.Matrix c r ↦ size.Vector c | n ↦ n ]

-- a vector with one component for each row of a matrix
abbrev pub vector_of_rows : ConstructorSize → ConstructorSize
vector_of_rows o = elim o [ size.Matrix c r ↦ size.Vector r | n ↦ n ]

abbrev pub transposed : ConstructorSize → ConstructorSize
transposed o = elim o [ size.Matrix c r ↦ size.Matrix r c | n ↦ n ]

-- the size in a predeclared struct's key: none for a scalar
abbrev pub vector_size : ConstructorSize → Option VectorSize
vector_size o = elim o [ size.Vector n ↦ Some n | _ ↦ None ]

-- a 32-bit unsigned integer
abbrev pub word : ValueType
word = value_type size.Scalar u32

-- a rule: its arguments, and its result
abbrev pub a_rule : Arguments → Conclusion → Rule
a_rule arguments conclusion = record { arguments = arguments; conclusion = conclusion }

-- the rule of a pattern for a shape and a scalar
abbrev pub math_rule : Pattern → ConstructorSize → Scalar → Rule
math_rule Same n s = a_rule (One (value_type n s)) (Value (value_type n s))
math_rule SameTwo n s = a_rule (Two (value_type n s) (value_type n s)) (Value (value_type n s))
math_rule SameThree n s = a_rule (Three (value_type n s) (value_type n s) (value_type n s)) (Value (value_type n s))
math_rule ToScalar n s = a_rule (One (value_type n s)) (Value (value_type size.Scalar s))
math_rule TwoToScalar n s = a_rule (Two (value_type n s) (value_type n s)) (Value (value_type size.Scalar s))
math_rule WithScalar n s = a_rule (Three (value_type n s) (value_type n s) (value_type size.Scalar s)) (Value (value_type n s))
math_rule WithExponent n s = a_rule (Two (value_type n s) (value_type n i32)) (Value (value_type n s))
math_rule WithRange n s = a_rule (Three (value_type n s) word word) (Value (value_type n s))
math_rule TwoWithRange n s = a_rule (Four (value_type n s) (value_type n s) word word) (Value (value_type n s))
math_rule ToFraction n s = a_rule (One (value_type n s)) (Predeclared (ModfResult (vector_size n) s))
math_rule ToExponent n s = a_rule (One (value_type n s)) (Predeclared (FrexpResult (vector_size n) s))
math_rule ToOuter n s = a_rule (Two (value_type (vector_of_columns n) s) (value_type (vector_of_rows n) s)) (Value (value_type n s))
math_rule ToTransposed n s = a_rule (One (value_type n s)) (Value (value_type (transposed n) s))
math_rule ToWord n s = a_rule (One (value_type n s)) (Value word)
math_rule FromWord n s = a_rule (One word) (Value (value_type n s))
math_rule FromTwoWords n s = a_rule (Two word word) (Value (value_type n s))

-- ---- the rules of a function: ordered by shape, then by scalar

-- one rule for each of the shapes with each of the scalars
abbrev pub rules_over : Pattern → List Scalar → List ConstructorSize → List Rule
rules_over p ss ns = flat_map (λ n. map (math_rule p n) ss) ns

abbrev pub one_rule : Pattern → ConstructorSize → Scalar → List Rule
one_rule p n s = rules_over p (s ∷ []) (n ∷ [])

-- the overloads of a math function, in order of preference
abbrev pub math_overloads : MathFunction → List Rule
-- numeric functions, all of one type
math_overloads math.Abs = rules_over Same numbers scalars_and_vectors
math_overloads math.Min = rules_over SameTwo numbers scalars_and_vectors
math_overloads math.Max = rules_over SameTwo numbers scalars_and_vectors
math_overloads math.Clamp = rules_over SameThree numbers scalars_and_vectors
math_overloads math.Sign = rules_over Same signed_numbers scalars_and_vectors
-- float functions, all of one type
math_overloads math.Saturate = rules_over Same floats scalars_and_vectors
math_overloads math.Cos = rules_over Same floats scalars_and_vectors
math_overloads math.Cosh = rules_over Same floats scalars_and_vectors
math_overloads math.Sin = rules_over Same floats scalars_and_vectors
math_overloads math.Sinh = rules_over Same floats scalars_and_vectors
math_overloads math.Tan = rules_over Same floats scalars_and_vectors
math_overloads math.Tanh = rules_over Same floats scalars_and_vectors
math_overloads math.Acos = rules_over Same floats scalars_and_vectors
math_overloads math.Asin = rules_over Same floats scalars_and_vectors
math_overloads math.Atan = rules_over Same floats scalars_and_vectors
math_overloads math.Asinh = rules_over Same floats scalars_and_vectors
math_overloads math.Acosh = rules_over Same floats scalars_and_vectors
math_overloads math.Atanh = rules_over Same floats scalars_and_vectors
math_overloads math.Radians = rules_over Same floats scalars_and_vectors
math_overloads math.Degrees = rules_over Same floats scalars_and_vectors
math_overloads math.Ceil = rules_over Same floats scalars_and_vectors
math_overloads math.Floor = rules_over Same floats scalars_and_vectors
math_overloads math.Round = rules_over Same floats scalars_and_vectors
math_overloads math.Fract = rules_over Same floats scalars_and_vectors
math_overloads math.Trunc = rules_over Same floats scalars_and_vectors
math_overloads math.Exp = rules_over Same floats scalars_and_vectors
math_overloads math.Exp2 = rules_over Same floats scalars_and_vectors
math_overloads math.Log = rules_over Same floats scalars_and_vectors
math_overloads math.Log2 = rules_over Same floats scalars_and_vectors
math_overloads math.Sqrt = rules_over Same floats scalars_and_vectors
math_overloads math.InverseSqrt = rules_over Same floats scalars_and_vectors
math_overloads math.Atan2 = rules_over SameTwo floats scalars_and_vectors
math_overloads math.Pow = rules_over SameTwo floats scalars_and_vectors
math_overloads math.Step = rules_over SameTwo floats scalars_and_vectors
math_overloads math.Fma = rules_over SameThree floats scalars_and_vectors
math_overloads math.SmoothStep = rules_over SameThree floats scalars_and_vectors
math_overloads math.Mix = rules_over SameThree floats scalars_and_vectors ++ rules_over WithScalar floats vectors
math_overloads math.QuantizeToF16 = rules_over Same (f32 ∷ []) scalars_and_vectors
-- bit operations on integers
math_overloads math.CountTrailingZeros = rules_over Same integers scalars_and_vectors
math_overloads math.CountLeadingZeros = rules_over Same integers scalars_and_vectors
math_overloads math.CountOneBits = rules_over Same integers scalars_and_vectors
math_overloads math.ReverseBits = rules_over Same integers scalars_and_vectors
math_overloads math.FirstTrailingBit = rules_over Same integers scalars_and_vectors
math_overloads math.FirstLeadingBit = rules_over Same integers scalars_and_vectors
math_overloads math.ExtractBits = rules_over WithRange integers scalars_and_vectors
math_overloads math.InsertBits = rules_over TwoWithRange integers scalars_and_vectors
-- vectors
math_overloads math.Dot = rules_over TwoToScalar numbers vectors
math_overloads math.Normalize = rules_over Same floats vectors
math_overloads math.Reflect = rules_over SameTwo floats vectors
math_overloads math.FaceForward = rules_over SameThree floats vectors
math_overloads math.Refract = rules_over WithScalar floats vectors
math_overloads math.Cross = rules_over SameTwo floats (vec3 ∷ [])
math_overloads math.Length = rules_over ToScalar floats scalars_and_vectors
math_overloads math.Distance = rules_over TwoToScalar floats scalars_and_vectors
-- `modf` and `frexp`
math_overloads math.Modf = rules_over ToFraction floats scalars_and_vectors
math_overloads math.Frexp = rules_over ToExponent floats scalars_and_vectors
math_overloads math.Ldexp = rules_over WithExponent floats scalars_and_vectors
-- matrices
math_overloads math.Outer = rules_over ToOuter floats matrices
math_overloads math.Transpose = rules_over ToTransposed floats matrices
math_overloads math.Determinant = rules_over ToScalar floats square_matrices
math_overloads math.Inverse = rules_over Same floats square_matrices
-- packing and unpacking
math_overloads math.Pack4x8snorm = one_rule ToWord vec4 f32
math_overloads math.Pack4x8unorm = one_rule ToWord vec4 f32
math_overloads math.Pack2x16snorm = one_rule ToWord vec2 f32
math_overloads math.Pack2x16unorm = one_rule ToWord vec2 f32
math_overloads math.Pack2x16float = one_rule ToWord vec2 f32
math_overloads math.Pack4xI8 = one_rule ToWord vec4 i32
math_overloads math.Pack4xI8Clamp = one_rule ToWord vec4 i32
math_overloads math.Pack4xU8 = one_rule ToWord vec4 u32
math_overloads math.Pack4xU8Clamp = one_rule ToWord vec4 u32
math_overloads math.Unpack4x8snorm = one_rule FromWord vec4 f32
math_overloads math.Unpack4x8unorm = one_rule FromWord vec4 f32
math_overloads math.Unpack2x16snorm = one_rule FromWord vec2 f32
math_overloads math.Unpack2x16unorm = one_rule FromWord vec2 f32
math_overloads math.Unpack2x16float = one_rule FromWord vec2 f32
math_overloads math.Unpack4xI8 = one_rule FromWord vec4 i32
math_overloads math.Unpack4xU8 = one_rule FromWord vec4 u32
math_overloads math.Dot4I8Packed = one_rule FromTwoWords size.Scalar i32
math_overloads math.Dot4U8Packed = one_rule FromTwoWords size.Scalar u32
