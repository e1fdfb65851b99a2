-- Conditions.
use Rattle.spec_expressions.specs.TypingForms.{Form}
use Rattle.spec_statements.specs.judged.Shapes.{IsMadeOf, IsScalarShape, IsBool}

-- a scalar bool
abbrev pub ConditionOK : (condition : Form) → Type 0
ConditionOK = IsMadeOf IsScalarShape IsBool
