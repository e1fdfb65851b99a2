use Rattle.std.proofs.Common.{refl, sym, ◌∙◌}
use Rattle.ir_items.specs.found.View.{function_view, module_view}
use Rattle.typing_handles.proofs.OrderLaws.{first_refutes, none_first}
use Rattle.typing_handles.proofs.arities.arities_match.Goals as goal

pub returns-in-Some : goal.returns-in-Some
returns-in-Some c = ((λ e. cc), (λ ok. absurd (first_refutes (module_view c.args.«module».now) (function_view c.args.function.now) _ (sym c.first_fault.ensures ∙ c.in-Some.is) ok)))

pub returns-in-None : goal.returns-in-None
returns-in-None c = ((λ e. none_first (module_view c.args.«module».now) (function_view c.args.function.now) (sym c.first_fault.ensures ∙ c.in-None.is)), (λ ok. refl))
