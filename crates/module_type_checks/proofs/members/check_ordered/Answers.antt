use Rattle.std.proofs.Common.{map, inr, arith, refl}
use Rattle.ir_types.specs.judged.Plain.{member_view}
use Rattle.module_type_checks.proofs.PlacedLaws.{free_none, free_behind_it, overlaps}
use Rattle.module_type_checks.proofs.members.check_ordered.Goals as goal

pub returns-in-None : goal.returns-in-None
returns-in-None c span = inr (free_none c.args.context.now (map member_view c.args.members.now) c.args.place c.args.member.offset c.in-None.ensures)

pub returns-then-from-end : goal.returns-then-from-end
returns-then-from-end c span =
    let o = overlaps c.args.context.now (map member_view c.args.members.now) c.args.place c.args.member.offset c.end.result c.in-Some.before c.in-Some.ensures c.end.ensures (omega (arith, c.if-from-end.true, c.from.ensures)) in
    (c.args.place, c.requires.placed.m, c.requires.placed.at, (refl, c.requires.placed.told.begins, c.if-member-eq0.false, o.0, o.1, o.2))

pub returns-else-from-end : goal.returns-else-from-end
returns-else-from-end c span =
    inr (free_behind_it c.args.context.now (map member_view c.args.members.now) c.args.place c.args.member.offset c.end.result c.in-Some.before c.in-Some.ensures c.end.ensures (omega (arith, c.if-from-end.false, c.from.ensures)))
