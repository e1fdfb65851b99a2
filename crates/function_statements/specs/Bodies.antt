-- The rule of each statement of a body, and its error.
use Rattle.std.specs.Prelude.{◌<◌, length, Result, Ok, Err}
use Rattle.typing_errors.specs.declared.error.FunctionError.{FunctionError}
use Rattle.ir_blocks.specs.judged.Plain.{PlainStatement, call}
use Rattle.ir_items.specs.judged.Plain.{PlainModule}
use Rattle.spec_statements.specs.judged.BlockContext.{BlockContext}
use Rattle.spec_statements.specs.judged.Statements.{StatementOK}
use Rattle.function_statements.specs.Faults.{IfFault, IsStatementFault}
use Rattle.function_statements.specs.declared.error.StatementError.{StatementError}
use Rattle.function_statements.specs.declared.error.StatementError.TheVariants.{Fault}

-- the callee of a statement exists
abbrev pub HasCallee : PlainModule → PlainStatement → Type 0
HasCallee m (call function arguments answer) = function < length m.functions
HasCallee m _ = Unit {0}

-- it meets its rule, if its callee exists
abbrev pub Meets : BlockContext → PlainStatement → Type 0
Meets c u = HasCallee c.m u → StatementOK c u

-- the answer of a check that allocates nothing
abbrev pub without_memory : Result (Unit {0}) FunctionError → Result (Unit {0}) StatementError
without_memory (Ok u) = Ok u
without_memory (Err e) = Err (Fault e)

-- it has this error, if there is one
abbrev pub IsWrong : BlockContext → StatementError → PlainStatement → Type 0
IsWrong c r u = IfFault r (IsStatementFault c u)
