use Rattle.std.proofs.Common.{◌≡◌, ◌∙◌, ap, Bool, true, false, refl, true≢false, sym}
use Rattle.function_modules.proofs.NameSteps.{apart, conflict, names_more}
use Rattle.function_modules.proofs.Placed.{item_there}
use Rattle.function_errors.specs.declared.error.InvalidEntryPoint.{InvalidEntryPoint}
use Rattle.ir_items.specs.found.View.{entry_view, module_view}
use Rattle.function_modules.proofs.entries.check_name.Goals as goal

held_if : (b : Bool) → ((b ≡ true → ⊥) → ⊥) → b ≡ true
held_if true cannot = refl
held_if false cannot = absurd (cannot (λ e. true≢false (sym e)))

pub returns-in-Ok-true-clause-apart : goal.returns-in-Ok-true-clause-apart
returns-in-Ok-true-clause-apart c =
    let m = c.args.«module».now in
    let e = entry_view c.index.result.now in
    let at = item_there entry_view m.entry_points.items c.args.index c.requires.within c.index.result.now c.index.ensures in
    apart (module_view m) c.args.index c.args.names.now c.requires.before e at (λ s. c.in-Ok-true.ensures.fresh.0 c.in-Ok-true.field-0-test s)

pub returns-in-Ok-true-clause-noted : goal.returns-in-Ok-true-clause-noted
returns-in-Ok-true-clause-noted c =
    let m = c.args.«module».now in
    let e = entry_view c.index.result.now in
    let at = item_there entry_view m.entry_points.items c.args.index c.requires.within c.index.result.now c.index.ensures in
    names_more (module_view m) c.args.index c.args.names.now c.requires.before e at c.note.new.self c.in-Ok-true.ensures.noted

pub returns-in-Ok-false-clause-apart : goal.returns-in-Ok-false-clause-apart
returns-in-Ok-false-clause-apart c =
    let m = c.args.«module».now in
    let e = entry_view c.index.result.now in
    let at = item_there entry_view m.entry_points.items c.args.index c.requires.within c.index.result.now c.index.ensures in (
      conflict (module_view m) c.args.index c.args.names.now c.requires.before e at (held_if _ (λ unseen. true≢false (sym (c.in-Ok-false.ensures.fresh.1 unseen) ∙ c.in-Ok-false.field-0-test))),
      ap (λ (x : InvalidEntryPoint). x.index) c.new-in-Ok-false.ensures.error,
      ap (λ (x : InvalidEntryPoint). x.error) c.new-in-Ok-false.ensures.error,
      c.new-in-Ok-false.ensures.spans,
    )
