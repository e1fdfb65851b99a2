-- What a walk reads from statements and expressions: a row per kind.
use Rattle.std.specs.Prelude.{ℕ, Bool, true, false, List, Option, Some, None, []}
use Rattle.ir_blocks.specs.judged.Plain.{PlainOperation, control_barrier, memory_barrier, store, image_store, atomic, image_atomic, uniform_load, ray_query, ballot, collective, gather, cooperative_store, ray_pipeline, PlainStatement, emit, block, if_, switch, loop, break, continue, return, kill, operation, call}
use Rattle.ir_types.specs.judged.ExpressionPlain.{PlainExpression, plain}
use Rattle.ir_types.specs.declared.expressions.Expression.TheVariants.{RayQueryProceedResult, SubgroupBallotResult}
use Rattle.spec_expressions.specs.judged.ExpressionNames.{expression_operands}
use Rattle.spec_expressions.specs.judged.Kinds.{ray_result}

-- the operands of an expression, if there is one
abbrev pub operands_given : Option PlainExpression → List ℕ
operands_given None = []
operands_given (Some x) = expression_operands x

-- the result of a `Proceed`
abbrev pub operation_proceeds : PlainOperation → Option ℕ
operation_proceeds (control_barrier barrier) = None
operation_proceeds (memory_barrier barrier) = None
operation_proceeds (store pointer value) = None
operation_proceeds (image_store image coordinate array_index value) = None
operation_proceeds (atomic pointer fun value result) = None
operation_proceeds (image_atomic image coordinate array_index fun value) = None
operation_proceeds (uniform_load pointer result) = None
operation_proceeds (ray_query query fun) = ray_result fun
operation_proceeds (ballot result predicate) = None
operation_proceeds (collective op collective_op argument result) = None
operation_proceeds (gather mode argument result) = None
operation_proceeds (cooperative_store target place) = None
operation_proceeds (ray_pipeline fun) = None

abbrev pub proceeds_by : PlainStatement → Option ℕ
proceeds_by (emit first end) = None
proceeds_by (block b) = None
proceeds_by (if_ condition accept reject) = None
proceeds_by (switch selector cases) = None
proceeds_by (loop body continuing break_if) = None
proceeds_by break = None
proceeds_by continue = None
proceeds_by (return value) = None
proceeds_by kill = None
proceeds_by (operation a) = operation_proceeds a
proceeds_by (call function arguments result) = None

-- the result of a ballot
abbrev pub operation_ballots : PlainOperation → Option ℕ
operation_ballots (control_barrier barrier) = None
operation_ballots (memory_barrier barrier) = None
operation_ballots (store pointer value) = None
operation_ballots (image_store image coordinate array_index value) = None
operation_ballots (atomic pointer fun value result) = None
operation_ballots (image_atomic image coordinate array_index fun value) = None
operation_ballots (uniform_load pointer result) = None
operation_ballots (ray_query query fun) = None
operation_ballots (ballot result predicate) = Some result
operation_ballots (collective op collective_op argument result) = None
operation_ballots (gather mode argument result) = None
operation_ballots (cooperative_store target place) = None
operation_ballots (ray_pipeline fun) = None

abbrev pub ballots_by : PlainStatement → Option ℕ
ballots_by (emit first end) = None
ballots_by (block b) = None
ballots_by (if_ condition accept reject) = None
ballots_by (switch selector cases) = None
ballots_by (loop body continuing break_if) = None
ballots_by break = None
ballots_by continue = None
ballots_by (return value) = None
ballots_by kill = None
ballots_by (operation a) = operation_ballots a
ballots_by (call function arguments result) = None

-- whether an expression is the result of a `Proceed`
abbrev pub is_proceed : Option PlainExpression → Bool
is_proceed (Some (plain RayQueryProceedResult)) = true
is_proceed _ = false

-- whether it is that of a ballot
abbrev pub is_ballot : Option PlainExpression → Bool
is_ballot (Some (plain SubgroupBallotResult)) = true
is_ballot _ = false
