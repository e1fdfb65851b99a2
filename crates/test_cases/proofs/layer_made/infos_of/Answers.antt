use Rattle.std.proofs.Common.{false}
use Rattle.test_cases.proofs.Accepted.{reported_of}
use Rattle.typing_forms.specs.judged.Resolutions.{types_view}
use Rattle.test_cases.proofs.layer_made.infos_of.Goals as goal

pub returns-in-Ok-validate_types : goal.returns-in-Ok-validate_types
returns-in-Ok-validate_types c = reported_of (record { 0 = 0 }) false (types_view c.args.types.now) c.in-Ok-validate_types.infos.items c.in-Ok-validate_types.ensures.accepted
