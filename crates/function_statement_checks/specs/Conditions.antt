-- Errors of conditions.
use Rattle.std.specs.Prelude.{◌≡◌, ℕ}
use Rattle.typing_errors.specs.declared.error.FunctionError.{FunctionError}
use Rattle.typing_errors.specs.declared.error.FunctionError.TheVariants as error
use Rattle.spec_statements.specs.judged.BlockContext.{BlockContext, form_at}
use Rattle.spec_statements.specs.judged.Conditions.{ConditionOK}

abbrev pub IsConditionFault : BlockContext → (condition : ℕ) → FunctionError → Type 0
IsConditionFault c condition (error.InvalidIfType e) = (e ≡ condition) × ¬ ConditionOK (form_at c condition)
IsConditionFault c condition _ = ⊥
