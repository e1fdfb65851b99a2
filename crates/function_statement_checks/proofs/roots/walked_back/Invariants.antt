use Rattle.std.proofs.Common.{ℕ}
use Rattle.ir_items.specs.judged.Bases.{expressions_of}
use Rattle.spec_statements.specs.judged.Stores.{BeginsAt}
use Rattle.function_statement_checks.proofs.roots.walked_back.Given as goal

abbrev pub decreases-loop-base : goal.decreases-loop-base
decreases-loop-base l = l.current

-- what the rest begins at, the whole begins at
abbrev pub invariant-loop-base : goal.invariant-loop-base
invariant-loop-base l = (start : ℕ) → BeginsAt (expressions_of l.expressions) l.current start → BeginsAt (expressions_of l.expressions) l.fn.pointer start
