-- Errors of returns.
use Rattle.std.specs.Prelude.{◌≡◌, ℕ, Option, option_map}
use Rattle.typing_errors.specs.declared.error.FunctionError.{FunctionError}
use Rattle.typing_errors.specs.declared.error.FunctionError.TheVariants as error
use Rattle.spec_statements.specs.judged.BlockContext.{BlockContext}
use Rattle.spec_statements.specs.judged.Returns.{ReturnOK}

abbrev pub IsReturnFault : BlockContext → (value : Option ℕ) → FunctionError → Type 0
IsReturnFault c value (error.InvalidReturnType expression expected_ty) =
    (expression ≡ value) × (expected_ty ≡ option_map (λ r. r.ty) c.f.result) × ¬ ReturnOK c value
IsReturnFault c value _ = ⊥
