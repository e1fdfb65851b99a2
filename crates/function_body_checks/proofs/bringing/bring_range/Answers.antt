use Rattle.std.proofs.Common.{rules, ◌≡◌, true, false, inl}
use Rattle.ir_arena.specs.judged.Handles.{handles_between}
use Rattle.ir_items.specs.found.View.{function_view}
use Rattle.function_body_checks.proofs.Firsts.{known_found, known_stays, all_brought, none_brought}
use Rattle.function_body_checks.proofs.bringing.bring_range.Goals as goal

pub returns-then-has_always : goal.returns-then-has_always
returns-then-has_always c =
    let there = c.if-has_always.ensures in
    known_found (function_view c.args.outline.now.function.now) c.args.scope.now (handles_between c.args.range) c.first_known.result c.first_known.ensures.none c.first_known.ensures.some (there.0, there.1, inl there.2)

pub returns-then-branch : goal.returns-then-branch
returns-then-branch c =
    let added : c.in_ok-insert_range.field-0 ≡ true = search rules in
    all_brought (function_view c.args.outline.now.function.now) c.args.scope.now c.insert_range.new.self (handles_between c.args.range) c.in_ok-insert_range.field-0 c.in_ok-insert_range.ensures added c.if-has_always.ensures

pub returns : goal.returns
returns c =
    let added : c.in_ok-insert_range.field-0 ≡ false = search rules in
    let none = none_brought c.args.scope.now c.insert_range.new.self (handles_between c.args.range) c.in_ok-insert_range.field-0 c.in_ok-insert_range.ensures added in
    known_stays (function_view c.args.outline.now.function.now) c.args.scope.now c.insert_range.new.self (handles_between c.args.range) c.first_known-2.result none.0 c.first_known-2.ensures.none c.first_known-2.ensures.some none.1
