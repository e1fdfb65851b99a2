-- An error of scope refutes the requirements on scope and results.
use Rattle.std.specs.Prelude.{ℕ}
use Rattle.typing_errors.specs.declared.error.FunctionError.{FunctionError}
use Rattle.ir_blocks.specs.judged.Places.{Place}
use Rattle.ir_flags.specs.Sets.{Has}
use Rattle.ir_flags.specs.declared.settings.ValidationFlags.{ValidationFlags}
use Rattle.ir_flags.specs.declared.settings.TheConstants.ValidationFlags.{EXPRESSIONS}
use Rattle.ir_items.specs.judged.Plain.{PlainFunction}
use Rattle.function_body_checks.specs.Faults.{IsScopeFault}
use Rattle.spec_statements.specs.found.Answered.{EachOnce}
use Rattle.spec_statements.specs.judged.Results.{AnswersBy}
use Rattle.spec_statements.specs.judged.Scope.{ScopeOK}

abbrev pub FaultsRefute : Type 0
FaultsRefute =
    (flags : ValidationFlags) (f : PlainFunction) (e : FunctionError) → IsScopeFault flags f e
    → ScopeOK f → EachOnce f.body → ((p : Place) (x : ℕ) → AnswersBy f.body p x → Has flags.0 EXPRESSIONS.0) → ⊥
