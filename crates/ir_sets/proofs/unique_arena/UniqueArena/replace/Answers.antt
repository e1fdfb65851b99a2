use Rattle.std.proofs.Common.{length, ap, ◌∙◌, arith, length-set}
use Rattle.std.specs.List.{zip}
use Rattle.ir_arena.specs.found.Arenas.{with_value}
use Rattle.ir_arena.proofs.Zipped.{opened, zip_set}
use Rattle.ir_sets.proofs.Distinct.{put_last, exchanged}
use Rattle.ir_sets.proofs.unique_arena.UniqueArena.replace.Goals as goal

pub invariant_of-self-2 : goal.invariant_of-self-2
invariant_of-self-2 g c =
    let held = c.self.inside in
    let both = opened held.values.keys held.spans.items c.args.self.now c.self.view_is c.self.invariant.0 in
    let grown = put_last g.T.PartialEq.eq held.values.keys c.insert.new.self.keys c.args.self.now c.args.new both.values_are c.requires.absent c.in_ok-insert.ensures.keys in
    let is = exchanged held.values.keys c.insert.new.self.keys c.swap_remove_index.new.self.keys c.index.result c.args.new c.swap_remove_index.result (omega (arith, both.values_length, c.index.ensures.value, c.requires.contained)) grown c.swap_remove_index.ensures.key c.swap_remove_index.ensures.keys in (
      omega (arith, ap length is, length-set held.values.keys c.index.result c.args.new, c.self.invariant.0),
      omega (arith, ap length is, length-set held.values.keys c.index.result c.args.new, c.self.invariant.1),
    )

pub returns-clause-ok : goal.returns-clause-ok
returns-clause-ok g c =
    let held = c.self.inside in
    let both = opened held.values.keys held.spans.items c.args.self.now c.self.view_is c.self.invariant.0 in
    let grown = put_last g.T.PartialEq.eq held.values.keys c.insert.new.self.keys c.args.self.now c.args.new both.values_are c.requires.absent c.in_ok-insert.ensures.keys in
    let is = exchanged held.values.keys c.insert.new.self.keys c.swap_remove_index.new.self.keys c.index.result c.args.new c.swap_remove_index.result (omega (arith, both.values_length, c.index.ensures.value, c.requires.contained)) grown c.swap_remove_index.ensures.key c.swap_remove_index.ensures.keys in
    ap (λ vs. zip vs held.spans.items) is ∙ (zip_set held.values.keys held.spans.items c.index.result c.args.new ∙ (ap (λ es. with_value es c.index.result c.args.new) c.self.view_is ∙ ap (λ i. with_value c.args.self.now i c.args.new) c.index.ensures.value))
