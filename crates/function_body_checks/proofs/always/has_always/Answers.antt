use Rattle.std.proofs.Common.{sym}
use Rattle.ir_items.specs.found.View.{function_view}
use Rattle.function_body_checks.proofs.Firsts.{always_reported}
use Rattle.function_body_checks.proofs.always.has_always.Goals as goal

pub returns : goal.returns
returns c =
    let none = rw (c.index_range-bounds.ensures.start, c.index_range-bounds.ensures.end) at c.first_passing.ensures.none in
    let some = rw (c.index_range-bounds.ensures.start, c.index_range-bounds.ensures.end) at c.first_passing.ensures.some in
    always_reported (function_view c.args.outline.now.function.now) c.args.outline.now.always.now c.args.outline.now.found c.args.range c.first_passing.result c.is_some.result (sym c.is_some.ensures) none some
