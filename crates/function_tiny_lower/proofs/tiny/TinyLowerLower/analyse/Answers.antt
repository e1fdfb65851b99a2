use Rattle.std.proofs.Common.{map, ap, ◌∙◌}
use Rattle.ir_items.specs.found.View.{function_view, module_view}
use Rattle.function_tiny_lower.proofs.Kept.{kept_of}
use Rattle.function_tiny_lower.specs.Ends.{noted_of}
use Rattle.function_tiny_lower.specs.Values.{resolution_of}
use Rattle.function_tiny_lower.proofs.tiny.TinyLowerLower.analyse.Goals as goal

pub returns-clause-kept : goal.returns-clause-kept
returns-clause-kept c = λ others agree.
    kept_of c.args._flags (module_view c.args.«module».now) (function_view c.args.function.now) c.args.callees.now others (map noted_of c.args.callees.now)
    c.in-Ok.found.items c.in-Ok-resolutions_of.types.items c.may_kill.result c.all.result c.new.result.items
    c.requires.made.no_globals agree c.in-Ok.ensures.types (c.in-Ok-resolutions_of.ensures ∙ ap (map resolution_of) c.as_slice.ensures.value) c.may_kill.ensures (c.all.ensures tt) c.new.ensures.items
