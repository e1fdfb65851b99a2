-- Scope of expressions at a place of a body.
use Rattle.std.specs.Prelude.{◌≡◌, ◌⊎◌, ℕ, Bool, true, false, Contains, IsSomeAnd, slice_get}
use Rattle.ir_blocks.specs.judged.Places.{Place, Before, spot_at}
use Rattle.ir_blocks.specs.judged.Plain.{PlainBlock}
use Rattle.ir_types.specs.judged.ExpressionPlain.{PlainExpression, compose, plain, always_in_scope}
use Rattle.spec_expressions.specs.IrItems.{PlainFunction}
use Rattle.spec_statements.specs.judged.Tables.{checked_at, introduced_at}

-- literals, constants, overrides, zero values, arguments and variables are always in scope, and never emitted
abbrev pub is_pre_emitted : PlainExpression → Bool
is_pre_emitted e = elim e [ compose type components ↦ false | plain expression ↦ always_in_scope expression ]

abbrev pub PreEmitted : PlainFunction → ℕ → Type 0
PreEmitted f e = IsSomeAnd (slice_get f.expressions e) (λ x. is_pre_emitted x ≡ true)

-- the statement at the place introduces the expression
abbrev pub Introduces : PlainBlock → Place → ℕ → Type 0
Introduces b p e = Contains (introduced_at (spot_at p b)) e

-- the statement or condition at the place uses the expression, which must be in scope
abbrev pub Checks : PlainBlock → Place → ℕ → Type 0
Checks b p e = Contains (checked_at (spot_at p b)) e

-- always, or a statement before the place has introduced it
abbrev pub InScope : PlainFunction → Place → ℕ → Type 0
InScope f p e = PreEmitted f e ⊎ ((q : Place) × Before q p × Introduces f.body q e)

-- Used expressions are in scope, and introduced expressions are not in scope already.
pub record ScopeOK (f : PlainFunction) : Type 0 where
  pub in_scope : (p : Place) (e : ℕ) → Checks f.body p e → InScope f p e
  pub fresh : (p : Place) (e : ℕ) → Introduces f.body p e → InScope f p e → ⊥
