-- Each result expression of a call or an atomic operation is the result of one statement.
use Rattle.std.specs.Prelude.{◌≡◌, ℕ, List, Option, Some, slice_get}
use Rattle.ir_blocks.specs.judged.Places.{Place, OccursAt}
use Rattle.ir_blocks.specs.judged.Plain.{PlainStatement, PlainBlock}
use Rattle.ir_types.specs.judged.ExpressionPlain.{PlainExpression, plain}
use Rattle.ir_types.specs.declared.expressions.Expression.TheVariants as x
use Rattle.ir_flags.specs.Sets.{Has}
use Rattle.ir_flags.specs.declared.settings.ValidationFlags.{ValidationFlags}
use Rattle.ir_flags.specs.declared.settings.TheConstants.ValidationFlags.{EXPRESSIONS}
use Rattle.spec_expressions.specs.IrItems.{PlainFunction}
use Rattle.spec_expressions.specs.judged.Kinds.{statement_row}

-- the result expression of a call or an atomic operation
abbrev pub answer_of : PlainStatement → Option ℕ
answer_of s = (statement_row s).answer

-- the statement at the place has the result expression
abbrev pub AnswersBy : PlainBlock → Place → ℕ → Type 0
AnswersBy b p e = (s : PlainStatement) × OccursAt b p s × (answer_of s ≡ Some e)

-- the expression is a result of a call or of an atomic operation
pub data DenotesResult (expressions : List PlainExpression) (e : ℕ) : Type 0 where
  of_call : {function : ℕ} → slice_get expressions e ≡ Some (plain (x.CallResult function)) → DenotesResult expressions e
  of_atomic : {type : ℕ} {comparison : _} → slice_get expressions e ≡ Some (plain (x.AtomicResult type comparison)) → DenotesResult expressions e

-- No two statements have the same result expression, and each result expression has a statement; and without the checks of
-- expressions no call and no atomic operation has a result.
pub record AnsweredOnce (flags : ValidationFlags) (f : PlainFunction) : Type 0 where
  pub once : (p q : Place) (e : ℕ) → AnswersBy f.body p e → AnswersBy f.body q e → p ≡ q
  pub asked : (p : Place) (e : ℕ) → AnswersBy f.body p e → Has flags.0 EXPRESSIONS.0
  pub each : Has flags.0 EXPRESSIONS.0 → (e : ℕ) → DenotesResult f.expressions e → (p : Place) × AnswersBy f.body p e
