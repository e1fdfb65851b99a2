use Rattle.std.proofs.Common.{◌≡◌, map, rules}
use Rattle.ir_items.specs.found.View.{module_view}
use Rattle.module_handles.proofs.Origins.{order_gives_origins}
use Rattle.module_steps.proofs.ValueLemmas.{known_in, unasked}
use Rattle.typing_errors.specs.Answers.{form_given}
use Rattle.judgement.proofs.Reached.{nothing_asked}
use Rattle.module_steps.proofs.values.check_values.Goals as goal

pub returns-then-not-requires_values-clause-accepted : goal.returns-then-not-requires_values-clause-accepted
returns-then-not-requires_values-clause-accepted c =
    nothing_asked c.args.settings c.args.overrides_resolved (module_view c.args.module.now) c.requires.reached (unasked _ c.requires_values.result c.requires_values.ensures c.if-not-requires_values.true)

pub from_arena-requires : goal.from_arena-requires
from_arena-requires c = (order_gives_origins c.args.module.now c.requires.reached.handles).globals

pub check_each-requires-clause-known : goal.check_each-requires-clause-known
check_each-requires-clause-known c =
    let forms : c.deref.result.now ≡ map (form_given (module_view c.args.module.now).types) c.args.resolutions.now = search rules in
    known_in _ c.args.settings.capabilities c.args.overrides_resolved c.requires.reached.handles c.in_ok-kinds.ensures c.args.resolutions.now c.requires.typed forms c.requires.told
