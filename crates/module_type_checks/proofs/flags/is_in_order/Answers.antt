use Rattle.std.proofs.Common.{map, refl, sym, ◌∙◌, true≢false, arith}
use Rattle.ir_types.specs.judged.Plain.{member_view}
use Rattle.module_type_checks.specs.Sets.{Follows}
use Rattle.module_type_checks.proofs.Places.{below_more, below_all}
use Rattle.module_type_checks.specs.Known.{tree_in}
use Rattle.module_type_checks.specs.Placed.{parts_in}
use Rattle.module_type_checks.proofs.flags.is_in_order.Goals as goal

pub returns-then-not-follows : goal.returns-then-not-follows
returns-then-not-follows c = ((λ e. absurd (true≢false (sym e))), (λ order. absurd (true≢false (sym (c.follows.ensures.1 (order c.loop-place.place)) ∙ c.if-not-follows.true))))

pub loop-place-preserved : goal.loop-place-preserved
loop-place-preserved c =
    below_more (Follows (parts_in c.args.context.now (map member_view c.args.members.now))) (parts_in c.args.context.now (map member_view c.args.members.now)) c.loop-place.place c.loop-place.invariant
    (c.follows.ensures.0 c.if-not-follows.false)

pub returns : goal.returns
returns c =
    ((λ e. below_all (Follows (parts_in c.args.context.now (map member_view c.args.members.now))) (tree_in c.args.context.now) c.args.members.now c.loop-place.place c.loop-place.invariant (omega arith)), (λ order. refl))
