use Rattle.std.proofs.Common.{◌-◌, arith}
use Rattle.function_body_checks.proofs.Ranges.{last_cut, last_is, last_len, part_left, none_left}
use Rattle.function_body_checks.proofs.list.cut_last.Goals as goal

pub overflow_sub-before : goal.overflow_sub-before
overflow_sub-before c =
    let first = c.index_range-bounds.result.start in
    let end = c.index_range-bounds.result.end in
    let is = last_is c.args.ranges.now.items c.pop.new.self.items c.in-Some.range first end c.in-Some.ensures.items c.index_range-bounds.ensures.start c.index_range-bounds.ensures.end in
    omega (arith, c.saturating_sub.ensures, last_len c.args.members.now c.args.ranges.now.items c.pop.new.self.items c.args.count first end c.requires.listed is)

pub returns-then-kept-eq0-clause-listed : goal.returns-then-kept-eq0-clause-listed
returns-then-kept-eq0-clause-listed c =
    let first = c.index_range-bounds.result.start in
    let end = c.index_range-bounds.result.end in
    let rest = c.pop.new.self.items in
    let kept = c.saturating_sub-kept.result in
    let is = last_is c.args.ranges.now.items rest c.in-Some.range first end c.in-Some.ensures.items c.index_range-bounds.ensures.start c.index_range-bounds.ensures.end in
    let len = last_len c.args.members.now c.args.ranges.now.items rest c.args.count first end c.requires.listed is in
    (last_cut c.args.members.now c.remove_between.new.self c.args.ranges.now.items rest rest c.args.count (c.args.count - c.saturating_sub.result) first end kept c.requires.listed is
    (omega (arith, c.saturating_sub.ensures, c.saturating_sub-kept.ensures)) (omega (arith, c.saturating_sub.ensures, c.if-kept-eq0.true)) c.remove_between.ensures
    (none_left rest first kept c.if-kept-eq0.true)).0

pub returns-then-kept-eq0-clause-cut : goal.returns-then-kept-eq0-clause-cut
returns-then-kept-eq0-clause-cut c =
    let first = c.index_range-bounds.result.start in
    let end = c.index_range-bounds.result.end in
    let rest = c.pop.new.self.items in
    let kept = c.saturating_sub-kept.result in
    let is = last_is c.args.ranges.now.items rest c.in-Some.range first end c.in-Some.ensures.items c.index_range-bounds.ensures.start c.index_range-bounds.ensures.end in
    let len = last_len c.args.members.now c.args.ranges.now.items rest c.args.count first end c.requires.listed is in
    (last_cut c.args.members.now c.remove_between.new.self c.args.ranges.now.items rest rest c.args.count (c.args.count - c.saturating_sub.result) first end kept c.requires.listed is
    (omega (arith, c.saturating_sub.ensures, c.saturating_sub-kept.ensures)) (omega (arith, c.saturating_sub.ensures, c.if-kept-eq0.true)) c.remove_between.ensures
    (none_left rest first kept c.if-kept-eq0.true)).1

pub returns-clause-listed : goal.returns-clause-listed
returns-clause-listed c =
    let first = c.index_range-bounds.result.start in
    let end = c.index_range-bounds.result.end in
    let rest = c.pop.new.self.items in
    let kept = c.saturating_sub-kept.result in
    let is = last_is c.args.ranges.now.items rest c.in-Some.range first end c.in-Some.ensures.items c.index_range-bounds.ensures.start c.index_range-bounds.ensures.end in
    let len = last_len c.args.members.now c.args.ranges.now.items rest c.args.count first end c.requires.listed is in
    (last_cut c.args.members.now c.remove_between.new.self c.args.ranges.now.items rest c.push_reserved.new.self.items c.args.count c.args.wanted first end kept c.requires.listed is
    (omega (arith, c.saturating_sub.ensures, c.saturating_sub-kept.ensures)) (omega (arith, c.saturating_sub.ensures, c.saturating_sub-kept.ensures)) c.remove_between.ensures
    (part_left c.push_reserved.new.self.items rest c.new.result first kept c.push_reserved.ensures.items c.new.ensures)).0

pub returns-clause-cut : goal.returns-clause-cut
returns-clause-cut c =
    let first = c.index_range-bounds.result.start in
    let end = c.index_range-bounds.result.end in
    let rest = c.pop.new.self.items in
    let kept = c.saturating_sub-kept.result in
    let is = last_is c.args.ranges.now.items rest c.in-Some.range first end c.in-Some.ensures.items c.index_range-bounds.ensures.start c.index_range-bounds.ensures.end in
    let len = last_len c.args.members.now c.args.ranges.now.items rest c.args.count first end c.requires.listed is in
    (last_cut c.args.members.now c.remove_between.new.self c.args.ranges.now.items rest c.push_reserved.new.self.items c.args.count c.args.wanted first end kept c.requires.listed is
    (omega (arith, c.saturating_sub.ensures, c.saturating_sub-kept.ensures)) (omega (arith, c.saturating_sub.ensures, c.saturating_sub-kept.ensures)) c.remove_between.ensures
    (part_left c.push_reserved.new.self.items rest c.new.result first kept c.push_reserved.ensures.items c.new.ensures)).1
