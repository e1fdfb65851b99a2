-- A switch with an error breaks its rule.
use Rattle.std.specs.Prelude.{ℕ}
use Rattle.typing_errors.specs.declared.error.FunctionError.{FunctionError}
use Rattle.ir_blocks.specs.judged.Plain.{PlainCases}
use Rattle.ir_kinds.specs.declared.scalars.ScalarKind.{ScalarKind}
use Rattle.spec_statements.specs.judged.BlockContext.{BlockContext, form_at}
use Rattle.spec_statements.specs.judged.Switches.{CasesOK, SwitchOK}
use Rattle.function_statement_checks.specs.Cases.{IsCaseFault}
use Rattle.function_statements.specs.Switches.{IsSwitchFault}

-- The refutation of the rules.
pub record Refuted (c : BlockContext) (e : FunctionError) : Type 0 where
  pub cases : (kind : ScalarKind) (cases : PlainCases) → IsCaseFault kind cases e → CasesOK kind cases → ⊥
  pub switch : (selector : ℕ) (cases : PlainCases) → IsSwitchFault c selector cases e → SwitchOK (form_at c selector) cases → ⊥

abbrev pub FaultsRefute : Type 0
FaultsRefute = (c : BlockContext) (e : FunctionError) → Refuted c e
