use Rattle.std.proofs.Common.{sym, ◌∙◌}
use Rattle.ir_types.specs.judged.Plain.{inner_view}
use Rattle.typing_forms.specs.judged.Resolutions.{types_view}
use Rattle.typing_forms.specs.found.Elements.{ends, last_of}
use Rattle.typing_forms.proofs.Walks.{goes_down, last_named, same_ends_more}
use Rattle.typing_forms.proofs.elements.innermost_last.Goals as goal

pub loop-last-smaller : goal.loop-last-smaller
loop-last-smaller c =
    goes_down last_of (types_view c.args.types.now) c.requires last_named (inner_view c.loop-last.current.now) (inner_view c.in-Some-inner_of.member.now) c.in-Some.last
    (sym c.in-Some.ensures) (sym c.in-Some-inner_of.ensures)

pub loop-last-preserved : goal.loop-last-preserved
loop-last-preserved c =
    same_ends_more last_of (types_view c.args.types.now) (inner_view c.loop-last.current.now) (inner_view c.in-Some-inner_of.member.now) (inner_view c.args.inner.now) c.in-Some.last
    c.loop-last.invariant (sym c.in-Some.ensures) (sym c.in-Some-inner_of.ensures)

pub returns-clause-found : goal.returns-clause-found
returns-clause-found c = c.loop-last.invariant.from _ (ends (sym c.last_of.ensures ∙ c.in_default.is))
