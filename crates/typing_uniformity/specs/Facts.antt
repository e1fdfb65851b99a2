-- Facts about expressions, given those of the earlier ones.
use Rattle.std.specs.Prelude.{◌≡◌, ℕ, ◌<◌, Bool, true, false, List, [], ◌∷◌, ◌++◌, length, Option, Some, None, slice_get}
use Rattle.ir_types.specs.judged.ExpressionPlain.{PlainExpression, plain, expression_view}
use Rattle.ir_types.specs.declared.expressions.Expression.{Expression}
use Rattle.ir_types.specs.declared.expressions.Expression.TheVariants.{GlobalVariable, Access, AccessIndex}
use Rattle.ir_items.specs.judged.Plain.{PlainFunction, PlainModule}
use Rattle.spec_expressions.specs.declared.uniformity.Uniformity.{Uniformity}
use Rattle.spec_expressions.specs.judged.OperandUses.{Operand, expression_uses}
use Rattle.spec_expressions.specs.judged.Values.{known_at, is_source, ComesFrom, IsExact}
use Rattle.spec_expressions.specs.judged.Faults.{requirement_at}

-- the fact found so far, or that of one more operand
abbrev pub or_known : List (Option ℕ) → ℕ → Option ℕ → Option ℕ
or_known sources e (Some s) = Some s
or_known sources e None = known_at sources e

abbrev pub find_all : List (Option ℕ) → List Operand → Option ℕ → Option ℕ
find_all sources [] found = found
find_all sources (o ∷ rest) found = find_all sources rest (or_known sources o.handle found)

abbrev pub source_if : Bool → ℕ → Option ℕ → Option ℕ
source_if true e below = Some e
source_if false e below = below

-- the source of non-uniformity of the expression at an index
abbrev pub source_of : PlainModule → PlainFunction → List (Option ℕ) → ℕ → PlainExpression → Option ℕ
source_of m f sources e expression = source_if (is_source m f expression) e (find_all sources (expression_uses expression) None)

-- the root of its access chain
abbrev pub start_of : List (Option ℕ) → PlainExpression → Option ℕ
start_of globals (plain (GlobalVariable g)) = Some g
start_of globals (plain (Access base index)) = known_at globals base
start_of globals (plain (AccessIndex base index)) = known_at globals base
start_of globals _ = None

-- the facts of all expressions, after the given earlier ones
abbrev pub sources_of : PlainModule → PlainFunction → List (Option ℕ) → List (ℕ × Expression) → List (Option ℕ)
sources_of m f known [] = known
sources_of m f known (h ∷ rest) = sources_of m f (known ++ source_of m f known h.0 (expression_view h.1) ∷ []) rest

abbrev pub starts_of : List (Option ℕ) → List (ℕ × Expression) → List (Option ℕ)
starts_of known [] = known
starts_of known (h ∷ rest) = starts_of (known ++ start_of known (expression_view h.1) ∷ []) rest

-- for each expression its source of non-uniformity, if there is one
pub record AreSources (m : PlainModule) (f : PlainFunction) (sources : List (Option ℕ)) : Type 0 where
  pub len : length sources ≡ length f.expressions
  pub each : (e : ℕ) → e < length f.expressions → IsExact (known_at sources e) (ComesFrom m f e)

-- A source of non-uniformity of the expression at an index, if there is one, and its requirements.
pub record IsUniformity (m : PlainModule) (f : PlainFunction) (e : ℕ) (u : Uniformity) : Type 0 where
  pub source : IsExact u.non_uniform_result (ComesFrom m f e)
  pub requirements : u.requirements.0 ≡ requirement_at f.expressions e

-- the facts of each expression
pub record AreUniformities (m : PlainModule) (f : PlainFunction) (all : List Uniformity) : Type 0 where
  pub len : length all ≡ length f.expressions
  pub each : (e : ℕ) (u : Uniformity) → slice_get all e ≡ Some u → IsUniformity m f e u
