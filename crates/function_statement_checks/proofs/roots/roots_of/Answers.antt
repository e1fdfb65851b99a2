use Rattle.std.proofs.Common.{◌≡◌, Some, arith, sym, subst, ◌∙◌}
use Rattle.ir_items.specs.judged.Bases.{expressions_of}
use Rattle.spec_statements.specs.judged.Stores.{base_at}
use Rattle.function_statement_checks.specs.Roots.{root_by}
use Rattle.function_statement_checks.proofs.RootLemmas.{one_more}
use Rattle.function_statement_checks.proofs.roots.roots_of.Goals as goal

pub loop-index-preserved : goal.loop-index-preserved
loop-index-preserved c =
    let xs = expressions_of c.args.expressions.now in
    let handle = c.at.result in
    let root = c.root_of.result in
    let told : root_by c.loop-index.roots.items handle (base_at xs handle) ≡ Some root = subst (λ rs. root_by rs handle (base_at xs handle) ≡ Some root) c.deref.ensures.value c.root_of.ensures in (
      one_more xs c.loop-index.roots.items c.push.new.self.items handle root c.loop-index.invariant.0 (c.loop-index.invariant.1 ∙ sym c.at.ensures) told c.in_ok-push.ensures.items,
      omega (arith, c.in_ok-push.ensures.len, c.loop-index.invariant.1),
    )
