-- Views of atomic operations.
use Rattle.function_atomic_checks.specs.declared.atomics.DeclaredAnswer.{DeclaredAnswer}
use Rattle.spec_statements.specs.judged.Atomics.{AtomicAnswer}

abbrev pub answer_view : DeclaredAnswer → AtomicAnswer
answer_view a = record { ty = a.ty; comparison = a.comparison }
