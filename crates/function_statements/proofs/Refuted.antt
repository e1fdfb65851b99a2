-- A fault refutes the rule.
use Rattle.std.proofs.Common.{Some, None}
use Rattle.typing_errors.specs.declared.error.FunctionError.{FunctionError}
use Rattle.ir_blocks.specs.judged.Plain.{PlainOperation, control_barrier, memory_barrier, store, image_store, atomic, image_atomic, uniform_load, ray_query, ballot, collective, gather, cooperative_store, ray_pipeline, PlainStatement, emit, block, if_, switch, loop, break, continue, return, kill, operation, call}
use Rattle.spec_statements.specs.judged.BlockContext.{BlockContext}
use Rattle.spec_statements.specs.judged.Statements.{StatementOK, OperationOK}
use Rattle.function_statement_checks.proofs.Refuted.{faults_refute_lem as by_statement}
use Rattle.function_atomic_checks.proofs.Refuted.{faults_refute_lem as by_atomic}
use Rattle.function_statements.proofs.OperationRefuted.{faults_refute_lem as by_ray}
use Rattle.function_statements.proofs.SubgroupRefuted.{faults_refute_lem as by_subgroup}
use Rattle.function_statements.proofs.SwitchRefuted.{faults_refute_lem as by_switch}
use Rattle.function_statements.specs.Faults.{IsOperationFault, IsStatementFault}
use Rattle.function_statements.specs.Laws.{FaultsRefute}

operation_refuted : (c : BlockContext) (a : PlainOperation) (e : FunctionError) → IsOperationFault c a e → OperationOK c a → ⊥
operation_refuted c (control_barrier barrier) e w ok = (by_statement c e).barrier barrier w ok
operation_refuted c (memory_barrier barrier) e w ok = (by_statement c e).barrier barrier w ok
operation_refuted c (store pointer value) e w ok = (by_statement c e).stored pointer value w ok
operation_refuted c (image_store image coordinate array_index value) e w ok = (by_atomic c e).image_store image coordinate array_index value w ok
operation_refuted c (atomic pointer fun value answer) e w ok = (by_atomic c e).atomic pointer fun value answer w ok
operation_refuted c (image_atomic image coordinate array_index fun value) e w ok = (by_atomic c e).image_atomic image coordinate array_index fun value w ok
operation_refuted c (uniform_load pointer answer) e w ok = (by_atomic c e).uniform_load pointer answer w ok
operation_refuted c (ray_query query fun) e w ok = (by_ray c e).query query fun w ok
operation_refuted c (ballot answer predicate) e w ok = (by_subgroup c e).ballot predicate w ok
operation_refuted c (collective op collective_op argument answer) e w ok = (by_subgroup c e).collective op collective_op argument answer w ok
operation_refuted c (gather mode argument answer) e w ok = (by_subgroup c e).gather mode argument answer w ok
operation_refuted c (cooperative_store target place) e w ok = (by_statement c e).cooperative_store target place w ok
operation_refuted c (ray_pipeline fun) e w ok = (by_ray c e).pipeline fun w ok

statement_refuted : (c : BlockContext) (u : PlainStatement) (e : FunctionError) → IsStatementFault c u e → StatementOK c u → ⊥
statement_refuted c (emit first end) e w ok = (by_statement c e).emitted first end w ok
statement_refuted c (block b) e w ok = absurd w
statement_refuted c (if_ condition accept reject) e w ok = (by_statement c e).condition condition w ok
statement_refuted c (switch selector cases) e w ok = (by_switch c e).switch selector cases w ok
statement_refuted c (loop body continuing None) e w ok = absurd w
statement_refuted c (loop body continuing (Some condition)) e w ok = (by_statement c e).condition condition w ok
statement_refuted c break e w ok = absurd w
statement_refuted c continue e w ok = absurd w
statement_refuted c (return value) e w ok = (by_statement c e).returned value w ok
statement_refuted c kill e w ok = absurd w
statement_refuted c (operation a) e w ok = operation_refuted c a e w ok
statement_refuted c (call function arguments answer) e w ok = (by_statement c e).call function arguments answer w ok

pub faults_refute_lem : FaultsRefute
faults_refute_lem c e = record {
  statement = λ u w ok. statement_refuted c u e w ok;
  body = λ w ok. statement_refuted c w.1.statement e w.1.wrong (ok w.0 w.1.statement w.1.stands);
}
