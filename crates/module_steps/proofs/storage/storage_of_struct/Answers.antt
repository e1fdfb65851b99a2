use Rattle.std.proofs.Common.{map, rules, arith, true≢false, sym, subst, ◌∙◌}
use Rattle.std.specs.Int.{◌∣◌}
use Rattle.ir_types.specs.judged.Plain.{member_view}
use Rattle.module_steps.proofs.LayoutLaws.{struct_at, broken_here, bad_span, storage_struct}
use Rattle.module_steps.specs.Layouts.{StoragePart}
use Rattle.typing_layout.specs.judged.Flags.{HasFlag, HostShareable}
use Rattle.module_type_checks.proofs.Places.{below_more, below_all}
use Rattle.module_type_checks.specs.Known.{tree_in}
use Rattle.module_type_checks.specs.Placed.{parts_in}
use Rattle.typing_layout.specs.found.BufferFaults.{BreaksStorage}
use Rattle.typing_layout.specs.declared.type_error.Disalignment.TheVariants as fault
use Rattle.module_steps.proofs.storage.storage_of_struct.Goals as goal

pub check_storage_member-requires-clause-own : goal.check_storage_member-requires-clause-own
check_storage_member-requires-clause-own c = struct_at c.args.context.now (map member_view c.args.members.now) c.args.span c.args.handle c.requires.own

pub loop-place-preserved : goal.loop-place-preserved
loop-place-preserved c =
    below_more StoragePart (parts_in c.args.context.now (map member_view c.args.members.now)) c.loop-place.place c.loop-place.invariant c.in_ok-check_storage_member.ensures

pub returns-then-is_aligned : goal.returns-then-is_aligned
returns-then-is_aligned c =
    let host : HasFlag HostShareable (tree_in c.args.context.now c.args.handle) = search rules in (
      storage_struct c.args.context.now (map member_view c.args.members.now) c.args.span c.args.handle c.requires.own host
          (below_all StoragePart (tree_in c.args.context.now) c.args.members.now c.loop-place.place c.loop-place.invariant (omega arith)) (subst (λ n. n ∣ c.args.span) c.requires.aligned (c.is_aligned.ensures.0 c.if-is_aligned.true)),
      c.requires.aligned,
    )

pub returns-else-is_aligned : goal.returns-else-is_aligned
returns-else-is_aligned c =
    broken_here BreaksStorage c.args.context.now c.args.handle (fault.StructSpan c.args.span c.args.own_alignment)
    (bad_span c.args.context.now (map member_view c.args.members.now) c.args.span c.args.handle c.args.own_alignment c.requires.own c.requires.aligned (λ d. true≢false (sym (c.is_aligned.ensures.1 d) ∙ c.if-is_aligned.false)))

pub returns-then-not-contains : goal.returns-then-not-contains
returns-then-not-contains c =
    let none : ¬ HasFlag HostShareable (tree_in c.args.context.now c.args.handle) = search rules in
    broken_here BreaksStorage c.args.context.now c.args.handle fault.NonHostShareable none
