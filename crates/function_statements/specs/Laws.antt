-- A body with an error has a statement that breaks its rule.
use Rattle.typing_errors.specs.declared.error.FunctionError.{FunctionError}
use Rattle.ir_blocks.specs.judged.Places.{Place, OccursAt}
use Rattle.ir_blocks.specs.judged.Plain.{PlainStatement}
use Rattle.spec_statements.specs.judged.BlockContext.{BlockContext}
use Rattle.spec_statements.specs.judged.Statements.{StatementOK}
use Rattle.function_statements.specs.Faults.{IsStatementFault, IsBodyFault}

pub record Refuted (c : BlockContext) (e : FunctionError) : Type 0 where
  pub statement : (u : PlainStatement) → IsStatementFault c u e → StatementOK c u → ⊥
  pub body : IsBodyFault c e → ((p : Place) (u : PlainStatement) → OccursAt c.f.body p u → StatementOK c u) → ⊥

abbrev pub FaultsRefute : Type 0
FaultsRefute = (c : BlockContext) (e : FunctionError) → Refuted c e
