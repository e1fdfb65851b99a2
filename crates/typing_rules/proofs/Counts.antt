-- Each rule of a function has as many arguments as the function, by computation.
use Rattle.std.proofs.Common.{◌≡◌, ◌==◌, ℕ, zero, suc, List, [], ◌∷◌, Bool, true, refl, arith, rules, All}
use Rattle.std.specs.List.{list_all}
use Rattle.std.proofs.lemmas.Bool.{and_parts}
use Rattle.ir_kinds.specs.judged.Maths.{argument_count}
use Rattle.ir_kinds.specs.declared.maths.MathFunction.{MathFunction}
use Rattle.ir_kinds.specs.declared.maths.MathFunction.TheVariants as math
use Rattle.typing_rules.specs.declared.rules.Rule.{Rule}
use Rattle.typing_rules.specs.judged.Laws.{arity, ArgumentCounts}
use Rattle.typing_rules.specs.judged.MathTable.{math_overloads}

abbrev all_counted : ℕ → List Rule → Bool
all_counted n rules = list_all (λ rule. arity rule == n) rules

counted : (function : MathFunction) → all_counted (argument_count function) (math_overloads function) ≡ true
counted math.Abs = refl
counted math.Min = refl
counted math.Max = refl
counted math.Clamp = refl
counted math.Sign = refl
counted math.Saturate = refl
counted math.Cos = refl
counted math.Cosh = refl
counted math.Sin = refl
counted math.Sinh = refl
counted math.Tan = refl
counted math.Tanh = refl
counted math.Acos = refl
counted math.Asin = refl
counted math.Atan = refl
counted math.Asinh = refl
counted math.Acosh = refl
counted math.Atanh = refl
counted math.Radians = refl
counted math.Degrees = refl
counted math.Ceil = refl
counted math.Floor = refl
counted math.Round = refl
counted math.Fract = refl
counted math.Trunc = refl
counted math.Exp = refl
counted math.Exp2 = refl
counted math.Log = refl
counted math.Log2 = refl
counted math.Sqrt = refl
counted math.InverseSqrt = refl
counted math.Atan2 = refl
counted math.Pow = refl
counted math.Step = refl
counted math.Fma = refl
counted math.SmoothStep = refl
counted math.Mix = refl
counted math.QuantizeToF16 = refl
counted math.CountTrailingZeros = refl
counted math.CountLeadingZeros = refl
counted math.CountOneBits = refl
counted math.ReverseBits = refl
counted math.FirstTrailingBit = refl
counted math.FirstLeadingBit = refl
counted math.ExtractBits = refl
counted math.InsertBits = refl
counted math.Dot = refl
counted math.Normalize = refl
counted math.Reflect = refl
counted math.FaceForward = refl
counted math.Refract = refl
counted math.Cross = refl
counted math.Length = refl
counted math.Distance = refl
counted math.Modf = refl
counted math.Frexp = refl
counted math.Ldexp = refl
counted math.Outer = refl
counted math.Transpose = refl
counted math.Determinant = refl
counted math.Inverse = refl
counted math.Pack4x8snorm = refl
counted math.Pack4x8unorm = refl
counted math.Pack2x16snorm = refl
counted math.Pack2x16unorm = refl
counted math.Pack2x16float = refl
counted math.Pack4xI8 = refl
counted math.Pack4xI8Clamp = refl
counted math.Pack4xU8 = refl
counted math.Pack4xU8Clamp = refl
counted math.Unpack4x8snorm = refl
counted math.Unpack4x8unorm = refl
counted math.Unpack2x16snorm = refl
counted math.Unpack2x16unorm = refl
counted math.Unpack2x16float = refl
counted math.Unpack4xI8 = refl
counted math.Unpack4xU8 = refl
counted math.Dot4I8Packed = refl
counted math.Dot4U8Packed = refl

one_counted : (n : ℕ) (rule : Rule) → (arity rule == n) ≡ true → arity rule ≡ n
one_counted n rule e = search (rules, e)

all_have : (n : ℕ) (rs : List Rule) → all_counted n rs ≡ true → All (λ rule. arity rule ≡ n) rs
all_have n [] e k d lt = absurd (omega arith)
all_have n (r ∷ rs) e zero d lt = one_counted n r (and_parts _ _ e).0
all_have n (r ∷ rs) e (suc k) d lt = all_have n rs (and_parts _ _ e).1 k d (omega arith)

pub argument_counts : ArgumentCounts
argument_counts function = all_have (argument_count function) (math_overloads function) (counted function)
