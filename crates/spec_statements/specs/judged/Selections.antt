-- Operands of selections, and of relational functions.
use Rattle.std.specs.Prelude.{◌≡◌, IsSomeAnd}
use Rattle.ir_kinds.specs.declared.operators.RelationalFunction.{RelationalFunction}
use Rattle.ir_kinds.specs.declared.operators.RelationalFunction.TheVariants.{All, Any, IsNan, IsInf}
use Rattle.spec_expressions.specs.TypingForms.{Form}
use Rattle.spec_statements.specs.judged.Shapes.{shaped_of, IsVectorShape, IsScalarOrVector, IsFloating, IsBool, IsMadeOf}
use Rattle.spec_statements.specs.declared.shapes.Shape.{Shape}
use Rattle.spec_statements.specs.declared.shapes.Shape.TheVariants as shape

-- a scalar bool, or a vector of as many bools
abbrev pub ChoosesFrom : (condition value : Shape) → Type 0
ChoosesFrom shape.Scalar value = Unit {0}
ChoosesFrom (shape.Vector n) (shape.Vector m) = n ≡ m
ChoosesFrom _ _ = ⊥

abbrev pub IsCondition : (condition : Form) → (value : Shape) → Type 0
IsCondition condition value = IsSomeAnd (shaped_of condition) (λ x. IsBool x.scalar.kind × ChoosesFrom x.shape value)

-- values of the same type, and a matching condition
abbrev pub SelectOK : (condition accept reject : Form) → Type 0
SelectOK condition accept reject = (accept ≡ reject) × IsSomeAnd (shaped_of accept) (λ x. IsScalarOrVector x.shape × IsCondition condition x.shape)

-- `All` and `Any` take a vector of bools; `IsNan` and `IsInf` take floats
abbrev pub RelationalOK : RelationalFunction → (of : Form) → Type 0
RelationalOK All of = IsMadeOf IsVectorShape IsBool of
RelationalOK Any of = IsMadeOf IsVectorShape IsBool of
RelationalOK IsNan of = IsMadeOf IsScalarOrVector IsFloating of
RelationalOK IsInf of = IsMadeOf IsScalarOrVector IsFloating of
