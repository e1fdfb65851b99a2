use Rattle.ir_items.specs.judged.Bases.{expressions_of}
use Rattle.function_statement_checks.proofs.RootLemmas.{begins}
use Rattle.function_statement_checks.proofs.context.BlockContextStatementContext.beginning_of.Goals as goal

pub returns-in-Some : goal.returns-in-Some
returns-in-Some c =
    let l = c.in-Some.ensures.lookup in
    begins (expressions_of c.args.self.now.function.now.expressions) c.args.self.now.roots.now c.requires c.args.self.now.begin c.args.pointer c.index.result c.in-Some.root.now c.index.ensures.value l.3.0 l.1
