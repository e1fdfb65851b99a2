-- Denotations of arguments.
use Rattle.std.specs.Prelude.{ℕ, Option, Some, None}
use Rattle.spec_expressions.specs.declared.sampling.GlobalOrArgument.{GlobalOrArgument}

abbrev pub argument_means : (ℕ → Option GlobalOrArgument) → Option ℕ → Option GlobalOrArgument
argument_means meaning o = elim o [ Some e ↦ meaning e | None ↦ None ]
