use Rattle.std.proofs.Common.{map, rules, true≢false, sym, ◌∙◌}
use Rattle.ir_types.specs.judged.Plain.{member_view}
use Rattle.module_steps.proofs.LayoutLaws.{broken_part, broken_here, bad_offset, storage_part}
use Rattle.typing_layout.specs.judged.Layout.{alignment}
use Rattle.module_type_checks.specs.Known.{types_in, tree_in}
use Rattle.typing_layout.specs.found.BufferFaults.{BreaksStorage, IsBroken}
use Rattle.typing_layout.specs.declared.type_error.Disalignment.TheVariants as fault
use Rattle.module_steps.proofs.storage.check_storage_member.Goals as goal

pub returns-in-Err : goal.returns-in-Err
returns-in-Err c =
    let h : IsBroken BreaksStorage (types_in c.args.context.now) (tree_in c.args.context.now c.args.handle) c.in-Err.broken =
    broken_part BreaksStorage c.args.context.now (map member_view c.args.members.now) c.args.handle c.args.place c.member_at-member.result c.in-Err.broken c.requires.own c.member_at-member.ensures
    (rw c.in-Err.is at c.member_at-member.ensures.told.facts.info.storage) in
    search rules

pub returns-then-is_aligned : goal.returns-then-is_aligned
returns-then-is_aligned c =
    storage_part c.args.context.now (map member_view c.args.members.now) c.args.place c.in-Ok.alignment c.member_at-member.result c.member_at-member.ensures (rw c.in-Ok.is at c.member_at-member.ensures.told.facts.info.storage)
    (c.is_aligned.ensures.0 c.if-is_aligned.true)

pub returns-else-is_aligned : goal.returns-else-is_aligned
returns-else-is_aligned c =
    broken_here BreaksStorage c.args.context.now c.args.handle (fault.MemberOffset c.args.place c.member_at-member.result.offset c.in-Ok.alignment)
    (bad_offset alignment c.args.context.now (map member_view c.args.members.now) c.args.handle c.args.place c.in-Ok.alignment c.member_at-member.result c.requires.own c.member_at-member.ensures
    (rw c.in-Ok.is at c.member_at-member.ensures.told.facts.info.storage).1 (λ d. true≢false (sym (c.is_aligned.ensures.1 d) ∙ c.if-is_aligned.false)))
