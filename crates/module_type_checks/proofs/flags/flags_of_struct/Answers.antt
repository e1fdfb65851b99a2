use Rattle.std.proofs.Common.{map}
use Rattle.ir_types.specs.judged.Plain.{member_view}
use Rattle.module_type_checks.proofs.FlagLaws.{struct_are}
use Rattle.module_type_checks.proofs.flags.flags_of_struct.Goals as goal

pub returns : goal.returns
returns c =
    struct_are c.args.context.now (map member_view c.args.members.now) c.common_flags-common.result c.ordered_flags-ordered.result.0 c.shared_flags.result c.is_in_order.result c.has_source.result c.common_flags-common.ensures
    c.is_in_order.ensures c.ordered_flags-ordered.ensures c.has_source.ensures c.shared_flags.ensures
