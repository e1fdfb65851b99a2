use Rattle.std.proofs.Common.{[], ◌∷◌, ◌++◌, length, ap, ◌∙◌, arith}
use Rattle.std.proofs.lemmas.List.{length_push}
use Rattle.ir_arena.proofs.Zipped.{opened, pushed}
use Rattle.ir_sets.proofs.Distinct.{put_last}
use Rattle.ir_sets.proofs.unique_arena.UniqueArena.push.Goals as goal

pub invariant_of-self : goal.invariant_of-self
invariant_of-self g c = (ap length c.reserve.ensures.items ∙ c.self.invariant.0, c.self.invariant.1)

pub invariant_of-self-2 : goal.invariant_of-self-2
invariant_of-self-2 g c =
    let held = c.self.inside in
    let both = opened held.values.keys held.spans.items c.args.self.now c.self.view_is c.self.invariant.0 in
    let grown = put_last g.T.PartialEq.eq held.values.keys c.insert.new.self.keys c.args.self.now c.args.value both.values_are c.requires.absent c.in_ok-insert.ensures.keys in (
      omega (arith, ap length grown, length_push held.values.keys c.args.value, c.push_reserved.ensures.len, ap length c.reserve.ensures.items, c.self.invariant.0),
      omega (arith, ap length grown, length_push held.values.keys c.args.value, both.values_length, c.requires.few),
    )

pub returns-clause-ok : goal.returns-clause-ok
returns-clause-ok g c =
    let held = c.self.inside in
    let both = opened held.values.keys held.spans.items c.args.self.now c.self.view_is c.self.invariant.0 in
    let grown = put_last g.T.PartialEq.eq held.values.keys c.insert.new.self.keys c.args.self.now c.args.value both.values_are c.requires.absent c.in_ok-insert.ensures.keys in
    pushed held.values.keys _ held.spans.items _ c.args.self.now c.args.value c.args.span c.self.view_is c.self.invariant.0 grown
    (c.push_reserved.ensures.items ∙ ap (λ l. l ++ c.args.span ∷ []) c.reserve.ensures.items)
