-- The number of arguments of each math function.
use Rattle.std.specs.Prelude.{ℕ}
use Rattle.ir_kinds.specs.declared.maths.MathFunction.{MathFunction}
use Rattle.ir_kinds.specs.declared.maths.MathFunction.TheVariants.{Min, Max, Clamp, Atan2, Ldexp, Pow, Dot, Dot4I8Packed, Dot4U8Packed, Outer, Cross, Distance, FaceForward, Reflect, Refract, Fma, Mix, Step, SmoothStep, ExtractBits, InsertBits}

abbrev pub argument_count : MathFunction → ℕ
argument_count Min = 2
argument_count Max = 2
argument_count Atan2 = 2
argument_count Ldexp = 2
argument_count Pow = 2
argument_count Dot = 2
argument_count Dot4I8Packed = 2
argument_count Dot4U8Packed = 2
argument_count Outer = 2
argument_count Cross = 2
argument_count Distance = 2
argument_count Reflect = 2
argument_count Step = 2
argument_count Clamp = 3
argument_count FaceForward = 3
argument_count Refract = 3
argument_count Fma = 3
argument_count Mix = 3
argument_count SmoothStep = 3
argument_count ExtractBits = 3
argument_count InsertBits = 4
argument_count _ = 1
