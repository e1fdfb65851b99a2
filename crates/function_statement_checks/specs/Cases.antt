-- Errors of switch cases.
use Rattle.std.specs.Prelude.{◌≡◌, ◌≢◌, ◌⊎◌, ℕ, ◌<◌, List, Some, true, false, Contains, slice_get}
use Rattle.std.specs.List.{AllPairs}
use Rattle.typing_errors.specs.declared.error.FunctionError.{FunctionError}
use Rattle.typing_errors.specs.declared.error.FunctionError.TheVariants as error
use Rattle.ir_blocks.specs.judged.Plain.{PlainCases}
use Rattle.ir_kinds.specs.declared.scalars.ScalarKind.{ScalarKind}
use Rattle.ir_kinds.specs.declared.values.SwitchValue.{SwitchValue}
use Rattle.ir_kinds.specs.declared.values.SwitchValue.TheVariants.{Default}
use Rattle.spec_statements.specs.judged.Switches.{case_values, FitsKind, falls_at_end}

-- A value occurs twice.
pub record OccursTwice (values : List SwitchValue) (v : SwitchValue) : Type 0 where
  pub first : ℕ
  pub again : ℕ
  pub behind : first < again
  pub stands : slice_get values first ≡ Some v
  pub stands_again : slice_get values again ≡ Some v

-- one has another kind, or occurs twice
abbrev pub IsValueFault : ScalarKind → List SwitchValue → FunctionError → Type 0
IsValueFault kind values error.ConflictingCaseType = (v : SwitchValue) × Contains values v × ¬ FitsKind kind v
IsValueFault kind values (error.ConflictingSwitchCase v) = OccursTwice values v × (v ≢ Default)
IsValueFault kind values error.MultipleDefaultCases = OccursTwice values Default
IsValueFault kind values _ = ⊥

-- The values have this kind and are distinct.
pub record AreApart (kind : ScalarKind) (values : List SwitchValue) : Type 0 where
  pub fit : (v : SwitchValue) → Contains values v → FitsKind kind v
  pub differ : AllPairs (λ v w. v ≢ w) values

-- there is no default, or the last case falls through
abbrev pub IsEndFault : PlainCases → FunctionError → Type 0
IsEndFault cases error.MissingDefaultCase = ¬ Contains (case_values cases) Default
IsEndFault cases error.LastCaseFallTrough = falls_at_end false cases ≡ true
IsEndFault cases _ = ⊥

abbrev pub IsCaseFault : ScalarKind → PlainCases → FunctionError → Type 0
IsCaseFault kind cases e = IsValueFault kind (case_values cases) e ⊎ IsEndFault cases e
