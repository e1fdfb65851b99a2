use Rattle.std.proofs.Common.{◌≡◌, map, rules}
use Rattle.ir_items.specs.found.View.{module_view}
use Rattle.module_handles.proofs.Origins.{order_gives_origins}
use Rattle.module_steps.proofs.ValueLemmas.{known_in}
use Rattle.typing_errors.specs.Answers.{form_given}
use Rattle.module_steps.proofs.globals.validate_globals.Goals as goal

pub from_arena-requires : goal.from_arena-requires
from_arena-requires c = (order_gives_origins c.args.module.now c.requires.handles).globals

pub check_all-requires-clause-known : goal.check_all-requires-clause-known
check_all-requires-clause-known c =
    let forms : c.deref.result.now ≡ map (form_given (module_view c.args.module.now).types) c.args.resolutions.now = search rules in
    known_in _ c.args.settings.capabilities c.args.overrides_resolved c.requires.handles c.in_ok-kinds.ensures c.args.resolutions.now c.requires.typed forms c.requires.told
