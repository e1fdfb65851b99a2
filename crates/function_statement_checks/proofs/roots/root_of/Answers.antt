use Rattle.ir_items.specs.judged.Bases.{expressions_of}
use Rattle.function_statement_checks.proofs.RootLemmas.{by_base, by_itself, base_known}
use Rattle.function_statement_checks.proofs.roots.root_of.Goals as goal

pub returns-in-Some-get : goal.returns-in-Some-get
returns-in-Some-get c =
    let l = c.in-Some-get.ensures.lookup in
    by_base (expressions_of c.args.expressions.now) c.args.roots.now c.args.handle c.in-Some.base c.index.result c.in-Some-get.root.now c.in-Some.ensures c.index.ensures.value l.3.0 l.1

pub returns-in-None-get : goal.returns-in-None-get
returns-in-None-get c =
    let l = c.in-None-get.ensures.lookup in
    base_known (expressions_of c.args.expressions.now) c.args.roots.now c.args.handle c.in-Some.base c.index.result c.requires.precede c.in-Some.ensures c.index.ensures.value c.requires.next l.3

pub returns-in-None : goal.returns-in-None
returns-in-None c = by_itself (expressions_of c.args.expressions.now) c.args.roots.now c.args.handle c.in-None.ensures
