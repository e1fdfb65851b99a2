-- Those before this one are known.
use Rattle.std.proofs.Common.{◌≡◌, length}
use Rattle.ir_items.specs.judged.Bases.{expressions_of}
use Rattle.function_statement_checks.specs.Roots.{AreRoots}
use Rattle.function_statement_checks.proofs.roots.roots_of.Given as goal

abbrev pub invariant-loop-index : goal.invariant-loop-index
invariant-loop-index l = AreRoots (expressions_of l.expressions) l.roots.items × (length l.roots.items ≡ l.index)
