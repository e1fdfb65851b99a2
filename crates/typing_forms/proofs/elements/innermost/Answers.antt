use Rattle.std.proofs.Common.{sym, ◌∙◌}
use Rattle.ir_types.specs.judged.Plain.{inner_view}
use Rattle.typing_forms.specs.judged.Resolutions.{types_view}
use Rattle.typing_forms.specs.found.Elements.{ends, base_of}
use Rattle.typing_forms.proofs.Walks.{goes_down, base_named, same_ends_more}
use Rattle.typing_forms.proofs.elements.innermost.Goals as goal

pub loop-base-smaller : goal.loop-base-smaller
loop-base-smaller c =
    goes_down base_of (types_view c.args.types.now) c.requires base_named (inner_view c.loop-base.current.now) (inner_view c.in-Some-inner_of.element.now) c.in-Some.base
    (sym c.in-Some.ensures) (sym c.in-Some-inner_of.ensures)

pub loop-base-preserved : goal.loop-base-preserved
loop-base-preserved c =
    same_ends_more base_of (types_view c.args.types.now) (inner_view c.loop-base.current.now) (inner_view c.in-Some-inner_of.element.now) (inner_view c.args.inner.now) c.in-Some.base
    c.loop-base.invariant (sym c.in-Some.ensures) (sym c.in-Some-inner_of.ensures)

pub returns-clause-found : goal.returns-clause-found
returns-clause-found c = c.loop-base.invariant.from _ (ends (sym c.base_of.ensures ∙ c.in_default.is))
