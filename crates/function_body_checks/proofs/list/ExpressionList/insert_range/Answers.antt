use Rattle.std.proofs.Common.{◌≤◌, refl, rules, arith}
use Rattle.function_body_checks.proofs.Ranges.{few, listed_more, listed-push, fresh_more, known_there}
use Rattle.function_body_checks.proofs.list.ExpressionList.insert_range.Goals as goal

pub returns-then-meets : goal.returns-then-meets
returns-then-meets c =
    rw (← c.self.view_is)
    (refl, known_there c.self.inside.members c.self.inside.ranges.items c.self.inside.count c.self.invariant c.args.range (rw (c.index_range-bounds.ensures.start, c.index_range-bounds.ensures.end) at c.if-meets.ensures))

pub overflow_add-self : goal.overflow_add-self
overflow_add-self c =
    let members = c.self.inside.members in
    let ranges = c.self.inside.ranges.items in
    let top : c.index_range-bounds.result.end ≤ 4294967296 = search rules in
    let small : c.args.range.1 ≤ 4294967296 = omega (arith, c.index_range-bounds.ensures.end) in
    let none = rw (c.index_range-bounds.ensures.start, c.index_range-bounds.ensures.end) at c.if-meets.ensures in
    omega (arith, few members ranges c.self.inside.count c.self.invariant c.args.range small none, c.saturating_sub.ensures, c.index_range-bounds.ensures.start, c.index_range-bounds.ensures.end)

pub invariant_of-self-2 : goal.invariant_of-self-2
invariant_of-self-2 c =
    let members = c.self.inside.members in
    let ranges = c.self.inside.ranges.items in
    let top : c.index_range-bounds.result.end ≤ 4294967296 = search rules in
    let small : c.args.range.1 ≤ 4294967296 = omega (arith, c.index_range-bounds.ensures.end) in
    let none = rw (c.index_range-bounds.ensures.start, c.index_range-bounds.ensures.end) at c.if-meets.ensures in
    let added = rw (c.index_range-bounds.ensures.start, c.index_range-bounds.ensures.end) at c.in_ok-insert_between.ensures.added in
    rw (c.push_reserved.ensures.items, c.reserve.ensures.items, c.saturating_sub.ensures, c.index_range-bounds.ensures.start, c.index_range-bounds.ensures.end)
    (listed_more members ranges c.self.inside.count c.self.invariant c.args.range small none c.insert_between.new.self added)

pub returns : goal.returns
returns c =
    let members = c.self.inside.members in
    let ranges = c.self.inside.ranges.items in
    let top : c.index_range-bounds.result.end ≤ 4294967296 = search rules in
    let small : c.args.range.1 ≤ 4294967296 = omega (arith, c.index_range-bounds.ensures.end) in
    let none = rw (c.index_range-bounds.ensures.start, c.index_range-bounds.ensures.end) at c.if-meets.ensures in
    rw (← c.self.view_is, c.push_reserved.ensures.items, c.reserve.ensures.items)
    (listed-push ranges c.args.range, fresh_more members ranges c.self.inside.count c.self.invariant c.args.range small none)
