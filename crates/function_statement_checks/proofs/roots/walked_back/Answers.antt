use Rattle.std.proofs.Common.{rules, sym}
use Rattle.spec_statements.specs.judged.Stores.{itself, through}
use Rattle.function_statement_checks.proofs.roots.walked_back.Goals as goal

pub loop-base-preserved : goal.loop-base-preserved
loop-base-preserved c = λ start begins. c.loop-base.invariant start (through (sym c.in-Some.ensures) begins)

pub returns : goal.returns
returns c = c.loop-base.invariant _ (itself (search rules))
