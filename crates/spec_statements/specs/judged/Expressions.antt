-- The rules of an expression of any kind, besides its type.
use Rattle.std.specs.Prelude.{◌≡◌, ℕ, Some, map, slice_get}
use Rattle.ir_types.specs.judged.ExpressionPlain.{PlainExpression, compose, plain}
use Rattle.spec_expressions.specs.judged.Compose.{ComposeOK}
use Rattle.spec_statements.specs.judged.Checks.{CheckOf}
use Rattle.spec_statements.specs.judged.Scene.{Scene, form_among}

-- the components of a composition make a value of its type; any other expression has its own row
abbrev pub RequiredOf : Scene → PlainExpression → Type 0
RequiredOf s (compose type components) = ComposeOK s.types type (map (form_among s.forms) components)
RequiredOf s (plain expression) = CheckOf s expression

-- the expression at a handle meets its rule
pub record ExpressionOK (s : Scene) (handle : ℕ) : Type 0 where
  pub expression : PlainExpression
  pub at : slice_get s.expressions handle ≡ Some expression
  pub met : RequiredOf s expression
