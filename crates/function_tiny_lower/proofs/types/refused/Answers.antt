use Rattle.std.proofs.Common.{sym, subst}
use Rattle.ir_items.specs.found.View.{function_view, module_view}
use Rattle.function_tiny_lower.specs.Readings.{IsTypeFault, untyped}
use Rattle.function_tiny_lower.proofs.types.refused.Goals as goal

pub returns : goal.returns
returns c = (subst (IsTypeFault (module_view c.args.«module».now) (function_view c.args.function.now)) (sym c.new.ensures.error) (untyped c.requires), c.new.ensures.spans)
