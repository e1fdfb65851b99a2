-- The rules of a function, without those that blend vectors by a scalar.
use Rattle.std.specs.Prelude.{List}
use Rattle.ir_kinds.specs.declared.maths.MathFunction.{MathFunction}
use Rattle.ir_kinds.specs.declared.maths.MathFunction.TheVariants.{Mix}
use Rattle.typing_rules.specs.declared.patterns.Pattern.TheVariants.{SameThree}
use Rattle.typing_rules.specs.declared.rules.Rule.{Rule}
use Rattle.typing_rules.specs.judged.MathTable.{floats, scalars_and_vectors, rules_over, math_overloads}

abbrev pub first_row : MathFunction → List Rule
first_row Mix = rules_over SameThree floats scalars_and_vectors
first_row function = math_overloads function
