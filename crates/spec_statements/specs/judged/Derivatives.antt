-- The rules of derivatives.
use Rattle.spec_expressions.specs.TypingForms.{Form}
use Rattle.spec_statements.specs.judged.Shapes.{IsScalarOrVector, IsFloating, IsMadeOf}

-- scalar or vector of floats
abbrev pub DerivativeOK : (of : Form) → Type 0
DerivativeOK of = IsMadeOf IsScalarOrVector IsFloating of
