use Rattle.std.proofs.Common.{sym, ◌∙◌}
use borrow.Author.Tests.{eqb-true, eq-eqb}
use Rattle.function_entry_checks.proofs.UsedLaws.{variable_allowed, variable_not_allowed}
use Rattle.ir_items.specs.found.GlobalView.{global_view}
use Rattle.ir_items.specs.found.View.{entry_view, module_view}
use Rattle.function_entry_checks.proofs.variables.check_variable.Goals as goal

pub returns-then-contains : goal.returns-then-contains
returns-then-contains c =
    variable_allowed (module_view c.args.«module».now) (entry_view c.args.entry.now) c.args.global (global_view c.args.variable.now) c.args.kinds.0 c.allowed_uses-allowed.result c.in-Ok.ensures c.in-Ok-check_reached.ensures c.allowed_uses-allowed.ensures
    (eqb-true _ _ (sym (c.contains.ensures tt) ∙ c.if-contains.true))

pub returns-else-contains : goal.returns-else-contains
returns-else-contains c =
    variable_not_allowed (module_view c.args.«module».now) (entry_view c.args.entry.now) c.args.global (global_view c.args.variable.now) c.args.kinds c.allowed_uses-allowed.result c.allowed_uses-allowed.ensures
    (λ has. let e = eq-eqb _ _ has in let f = sym (c.contains.ensures tt) ∙ c.if-contains.false in cc)
