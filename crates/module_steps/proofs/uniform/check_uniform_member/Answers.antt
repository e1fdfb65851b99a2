use Rattle.std.proofs.Common.{map, rules}
use Rattle.ir_types.specs.judged.Plain.{member_view}
use Rattle.module_steps.proofs.LayoutLaws.{broken_part}
use Rattle.module_type_checks.specs.Known.{types_in, tree_in}
use Rattle.typing_layout.specs.found.BufferFaults.{BreaksUniform, IsBroken}
use Rattle.module_steps.proofs.uniform.check_uniform_member.Goals as goal

pub returns-in-Err : goal.returns-in-Err
returns-in-Err c =
    let h : IsBroken BreaksUniform (types_in c.args.context.now) (tree_in c.args.context.now c.args.handle) c.in-Err.broken =
    broken_part BreaksUniform c.args.context.now (map member_view c.args.members.now) c.args.handle c.args.place c.member_at-member.result c.in-Err.broken c.requires.own c.member_at-member.ensures
    (rw c.in-Err.is at c.member_at-member.ensures.told.facts.info.uniform) in
    search rules
