-- The rules of each function are in order, by computation.
use Rattle.std.proofs.Common.{◌≡◌, true, refl}
use Rattle.ir_kinds.specs.declared.maths.MathFunction.{MathFunction}
use Rattle.ir_kinds.specs.declared.maths.MathFunction.TheVariants as math
use Rattle.typing_rules.specs.judged.MathTable.{math_overloads}
use Rattle.typing_rules.specs.judged.Laws.{PreferredIsBest}
use Rattle.typing_rules.proofs.Order.{ordered, best_left}

tables : (function : MathFunction) → ordered (math_overloads function) ≡ true
tables math.Abs = refl
tables math.Min = refl
tables math.Max = refl
tables math.Clamp = refl
tables math.Sign = refl
tables math.Saturate = refl
tables math.Cos = refl
tables math.Cosh = refl
tables math.Sin = refl
tables math.Sinh = refl
tables math.Tan = refl
tables math.Tanh = refl
tables math.Acos = refl
tables math.Asin = refl
tables math.Atan = refl
tables math.Asinh = refl
tables math.Acosh = refl
tables math.Atanh = refl
tables math.Radians = refl
tables math.Degrees = refl
tables math.Ceil = refl
tables math.Floor = refl
tables math.Round = refl
tables math.Fract = refl
tables math.Trunc = refl
tables math.Exp = refl
tables math.Exp2 = refl
tables math.Log = refl
tables math.Log2 = refl
tables math.Sqrt = refl
tables math.InverseSqrt = refl
tables math.Atan2 = refl
tables math.Pow = refl
tables math.Step = refl
tables math.Fma = refl
tables math.SmoothStep = refl
tables math.Mix = refl
tables math.QuantizeToF16 = refl
tables math.CountTrailingZeros = refl
tables math.CountLeadingZeros = refl
tables math.CountOneBits = refl
tables math.ReverseBits = refl
tables math.FirstTrailingBit = refl
tables math.FirstLeadingBit = refl
tables math.ExtractBits = refl
tables math.InsertBits = refl
tables math.Dot = refl
tables math.Normalize = refl
tables math.Reflect = refl
tables math.FaceForward = refl
tables math.Refract = refl
tables math.Cross = refl
tables math.Length = refl
tables math.Distance = refl
tables math.Modf = refl
tables math.Frexp = refl
tables math.Ldexp = refl
tables math.Outer = refl
tables math.Transpose = refl
tables math.Determinant = refl
tables math.Inverse = refl
tables math.Pack4x8snorm = refl
tables math.Pack4x8unorm = refl
tables math.Pack2x16snorm = refl
tables math.Pack2x16unorm = refl
tables math.Pack2x16float = refl
tables math.Pack4xI8 = refl
tables math.Pack4xI8Clamp = refl
tables math.Pack4xU8 = refl
tables math.Pack4xU8Clamp = refl
tables math.Unpack4x8snorm = refl
tables math.Unpack4x8unorm = refl
tables math.Unpack2x16snorm = refl
tables math.Unpack2x16unorm = refl
tables math.Unpack2x16float = refl
tables math.Unpack4xI8 = refl
tables math.Unpack4xU8 = refl
tables math.Dot4I8Packed = refl
tables math.Dot4U8Packed = refl

pub preferred_is_best : PreferredIsBest
preferred_is_best function demands preferred other first left place given supplied type x y is_type rank_first rank_other =
    best_left (math_overloads function) (tables function) demands preferred other first left place type x y rank_first rank_other
