-- Constness of expressions.
use Rattle.std.specs.Prelude.{◌≡◌, ◌<◌, ◌++◌, ℕ, List, [], ◌∷◌, Some, map, option_to_list, slice_get, length, All}
use Rattle.typing_forms.specs.IrTypes.{PlainExpression, compose, plain_expression as plain}
use Rattle.typing_forms.specs.IrTypes.expression as expression
use Rattle.typing_layout.specs.declared.constness.ExpressionKind.{ExpressionKind}
use Rattle.typing_layout.specs.declared.constness.ExpressionKind.TheVariants.{Const, Override, Runtime}

-- the later of two kinds: const, override, runtime
abbrev pub later : ExpressionKind → ExpressionKind → ExpressionKind
later Const k = k
later Override Const = Override
later Override k = k
later Runtime k = Runtime

-- the latest of some kinds, const if there is none
abbrev pub latest : List ExpressionKind → ExpressionKind
latest [] = Const
latest (k ∷ ks) = later k (latest ks)

-- What determines the kind of an expression.
pub data Origin : Type 0 where
  own : ExpressionKind → Origin
  latest_of : (operands : List ℕ) → Origin

abbrev pub origin_of : PlainExpression → Origin
origin_of (compose type components) = latest_of components
origin_of (plain (expression.Literal value)) = own Const
origin_of (plain (expression.Constant handle)) = own Const
origin_of (plain (expression.Override handle)) = own Override
origin_of (plain (expression.ZeroValue type)) = own Const
origin_of (plain (expression.Compose type components)) = latest_of components.items
origin_of (plain (expression.Access base index)) = latest_of (base ∷ index ∷ [])
origin_of (plain (expression.AccessIndex base index)) = latest_of (base ∷ [])
origin_of (plain (expression.Splat size value)) = latest_of (value ∷ [])
origin_of (plain (expression.Swizzle size vector pattern)) = latest_of (vector ∷ [])
origin_of (plain (expression.Unary op expr)) = latest_of (expr ∷ [])
origin_of (plain (expression.Binary op left right)) = latest_of (left ∷ right ∷ [])
origin_of (plain (expression.Select condition accept reject)) = latest_of (condition ∷ accept ∷ reject ∷ [])
origin_of (plain (expression.Relational fun argument)) = latest_of (argument ∷ [])
origin_of (plain (expression.Math fun arg arg1 arg2 arg3)) = latest_of (arg ∷ (option_to_list arg1 ++ option_to_list arg2 ++ option_to_list arg3))
origin_of (plain (expression.As expr kind convert)) = latest_of (expr ∷ [])
origin_of _ = own Runtime

-- The expression at a handle has a kind: its own, or the latest of its operands' kinds.
pub data IsOfKind (expressions : List PlainExpression) : ℕ → ExpressionKind → Type 0 where
  by_itself : {handle : ℕ} {e : PlainExpression} {k : ExpressionKind} → slice_get expressions handle ≡ Some e → origin_of e ≡ own k
      → IsOfKind expressions handle k
  by_operands : {handle : ℕ} {e : PlainExpression} {operands : List ℕ} (kind : ℕ → ExpressionKind) → slice_get expressions handle ≡ Some e
      → origin_of e ≡ latest_of operands → ((place operand : ℕ) → slice_get operands place ≡ Some operand → IsOfKind expressions operand (kind operand))
      → IsOfKind expressions handle (latest (map kind operands))

-- the operands that determine the kind of an expression
abbrev pub operands_from : Origin → List ℕ
operands_from (own k) = []
operands_from (latest_of operands) = operands

-- the operands that determine the kind precede the expression
abbrev pub OriginsPrecede : List PlainExpression → Type 0
OriginsPrecede expressions =
    (handle : ℕ) (e : PlainExpression) → slice_get expressions handle ≡ Some e → All (λ operand. operand < handle) (operands_from (origin_of e))

-- each is the kind of the expression at its index
pub record AreKinds (expressions : List PlainExpression) (kinds : List ExpressionKind) : Type 0 where
  pub many : length kinds ≡ length expressions
  pub each : (handle : ℕ) (k : ExpressionKind) → slice_get kinds handle ≡ Some k → IsOfKind expressions handle k

-- an expression has at most one kind
abbrev pub OneKind : Type 0
OneKind = (expressions : List PlainExpression) (handle : ℕ) (left right : ExpressionKind) → IsOfKind expressions handle left → IsOfKind expressions handle right
    → left ≡ right
