-- The errors of expressions.
use Rattle.std.specs.Prelude.{◌≡◌, ℕ, Option, Some, None, map, slice_get}
use Rattle.module_context.specs.Refused.{IsRefused}
use Rattle.typing_errors.specs.declared.expressions.ExpressionError.{ExpressionError}
use Rattle.module_expression_checks.specs.Faults.{IsBadLiteral, IsBadComposition}
use Rattle.ir_types.specs.judged.ExpressionPlain.{PlainExpression, compose, plain}
use Rattle.ir_types.specs.declared.expressions.Expression.{Expression}
use Rattle.ir_types.specs.declared.expressions.Expression.TheVariants as x
use Rattle.ir_kinds.specs.declared.values.Literal.{Literal}
use Rattle.spec_statements.specs.judged.Access.{literal_of}
use Rattle.spec_statements.specs.judged.Checks.{CheckOf}
use Rattle.spec_statements.specs.judged.Scene.{Scene, form_among}

-- `Literal` for an invalid literal; `Other` if any other requirement does not hold
abbrev pub IsPlainFault : Scene → Expression → Option Literal → ExpressionError → Type 0
IsPlainFault s expression (Some value) e = IsBadLiteral s.capabilities value e
IsPlainFault s expression None e = IsRefused (CheckOf s expression) e

-- `Compose` for invalid components, or the error of another kind of expression
abbrev pub IsFaultOf : Scene → PlainExpression → ExpressionError → Type 0
IsFaultOf s (compose type components) e = IsBadComposition s.types type (map (form_among s.forms) components) e
IsFaultOf s (plain expression) e = IsPlainFault s expression (literal_of (plain expression)) e

-- the expression at a handle has this error
pub record IsExpressionFault (s : Scene) (handle : ℕ) (e : ExpressionError) : Type 0 where
  pub expression : PlainExpression
  pub at : slice_get s.expressions handle ≡ Some expression
  pub fault : IsFaultOf s expression e

-- the expression is an image operation that meets its requirements
abbrev pub ImageOK : Scene → PlainExpression → Type 0
ImageOK s (plain (x.ImageSample image sampler gather coordinate array_index offset level depth_ref clamp_to_edge)) =
    CheckOf s (x.ImageSample image sampler gather coordinate array_index offset level depth_ref clamp_to_edge)
ImageOK s (plain (x.ImageLoad image coordinate array_index sample level)) = CheckOf s (x.ImageLoad image coordinate array_index sample level)
ImageOK s (plain (x.ImageQuery image query)) = CheckOf s (x.ImageQuery image query)
ImageOK s _ = ⊥
