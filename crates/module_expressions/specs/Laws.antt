-- An expression with an error is rejected.
use Rattle.std.specs.Prelude.{ℕ}
use Rattle.typing_errors.specs.declared.expressions.ExpressionError.{ExpressionError}
use Rattle.module_expressions.specs.Faults.{IsExpressionFault}
use Rattle.spec_statements.specs.judged.Expressions.{ExpressionOK}
use Rattle.spec_statements.specs.judged.Scene.{Scene}

abbrev pub ExpressionRefuted : Type 0
ExpressionRefuted = (s : Scene) (handle : ℕ) (e : ExpressionError) → IsExpressionFault s handle e → ¬ ExpressionOK s handle
