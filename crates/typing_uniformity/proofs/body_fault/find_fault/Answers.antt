use Rattle.std.proofs.Common.{ap, ◌∙◌, false}
use Rattle.ir_blocks.specs.found.View.{block_view}
use Rattle.spec_expressions.specs.found.Found.{required_in}
use Rattle.typing_uniformity.specs.Requiring.{varies_of, look_of}
use Rattle.typing_uniformity.proofs.Answered.{answered}
use Rattle.typing_uniformity.proofs.body_fault.find_fault.Goals as goal

pub returns : goal.returns
returns c =
    let uniformities = c.args.uniformities.now in
    let body = block_view c.args.body.now in
    answered c.args.flags c.args.severity uniformities c.in_ok-next.next.items body c.first_fault.result (c.requires_uniformity.ensures.0 c.if-not-requires_uniformity.false) c.in_ok-next.ensures
    (c.first_fault.ensures ∙ ap (λ next. required_in (varies_of uniformities) (look_of uniformities next) false body) c.deref.ensures.value)
