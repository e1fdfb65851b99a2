use Rattle.std.proofs.Common.{◌≡◌, ◌⊎◌, ◌++◌, ◌∷◌, [], refl, sym, subst}
use Rattle.std.proofs.lemmas.Result.{on_ok_weaker}
use Rattle.typing_summaries.specs.Joined.{Holds, IsWrong, AreJoined}
use Rattle.typing_summaries.specs.Parts.{AllStand}
use Rattle.typing_summaries.specs.Tallies.{Paired, known, paired}
use Rattle.typing_summaries.specs.declared.joined.Passed.{Passed}
use Rattle.typing_summaries.proofs.PassedLemmas.{adds_nothing, alike_joined, one_joined}
use Rattle.typing_summaries.proofs.joined.join_table.Goals as goal

pub returns-then-has-clause-pairs : goal.returns-then-has-clause-pairs
returns-then-has-clause-pairs c =
    let t = paired c.args.sampled.now in
    let parts = c.in_ok-parts.parts.items in
    let joined = c.args.joined.now.passed.items in
    let callee = c.args.callee in
    adds_nothing (known c.args.context.now) callee c.args.pairs.now.items c.requires.kept c.args.arguments.now c.args.marks.now c.requires.marked parts c.in_ok-parts.ensures joined t c.requires.joined
    (subst (λ ps. Holds joined callee ps parts) c.as_slice.ensures (subst (λ qs. Holds joined callee c.as_slice.result.now qs) c.deref-then-settled-2.ensures.value (c.has.ensures c.if-has.true)))
    (subst (λ qs. IsWrong t ⊎ AllStand c.args.marks.now qs) c.deref.ensures.value (c.is_settled-settled.ensures c.if-settled.true))

pub returns-then-has-2-clause-pairs : goal.returns-then-has-2-clause-pairs
returns-then-has-2-clause-pairs c =
    let t = paired c.args.sampled.now in
    let parts = c.in_ok-parts.parts.items in
    let joined = c.args.joined.now.passed.items in
    let callee = c.args.callee in
    let p : Passed = record { callee = callee; pairs = c.in_ok-pairs.pairs; parts = c.in_ok-parts.parts } in
    on_ok_weaker c.note.result (λ (e : c.note.new.self.passed.items ≡ joined ++ p ∷ []).
    adds_nothing (known c.args.context.now) callee c.args.pairs.now.items c.requires.kept c.args.arguments.now c.args.marks.now c.requires.marked parts c.in_ok-parts.ensures joined t c.requires.joined
    (subst (λ ps. Holds joined callee ps parts) c.as_slice-then-settled-2.ensures (subst (λ qs. Holds joined callee c.as_slice-then-settled-2.result.now qs) c.deref-then-settled-2-3.ensures.value (c.has-then-settled-2.ensures c.if-has-2.true)))
    (subst (λ qs. IsWrong t ⊎ AllStand c.args.marks.now qs) c.deref.ensures.value (c.is_settled-settled.ensures c.if-settled-2.true))) c.note.ensures

pub returns-then-has-2-clause-joined : goal.returns-then-has-2-clause-joined
returns-then-has-2-clause-joined c =
    let k = known c.args.context.now in
    let held = (paired c.args.sampled.now).pairs in
    let parts = c.in_ok-parts.parts.items in
    let joined = c.args.joined.now.passed.items in
    let callee = c.args.callee in
    let p : Passed = record { callee = callee; pairs = c.in_ok-pairs.pairs; parts = c.in_ok-parts.parts } in
    on_ok_weaker c.note.result (λ (e : c.note.new.self.passed.items ≡ joined ++ p ∷ []).
    subst (λ js. AreJoined k js held) (sym e)
    (alike_joined k callee c.args.pairs.now.items c.requires.kept c.args.arguments.now c.args.marks.now c.requires.marked parts c.in_ok-parts.ensures p refl c.in_ok-pairs.ensures refl joined held c.requires.joined
    (subst (λ ps. Holds joined callee ps parts) c.as_slice-then-settled-2.ensures (subst (λ qs. Holds joined callee c.as_slice-then-settled-2.result.now qs) c.deref-then-settled-2-3.ensures.value (c.has-then-settled-2.ensures c.if-has-2.true))))) c.note.ensures

pub returns-clause-joined : goal.returns-clause-joined
returns-clause-joined c =
    let k = known c.args.context.now in
    let t = paired c.args.sampled.now in
    let joined = c.args.joined.now.passed.items in
    let p : Passed = record { callee = c.args.callee; pairs = c.in_ok-pairs-2.pairs; parts = c.in_ok-parts.parts } in
    on_ok_weaker c.note-2.result (λ (e : c.note-2.new.self.passed.items ≡ joined ++ p ∷ []).
    subst (λ js. AreJoined k js (paired c.join.new.self).pairs) (sym e)
    (subst (λ (z : Paired). AreJoined k (joined ++ p ∷ []) z.pairs) (sym c.in_ok-join.ensures)
    (one_joined k c.args.callee c.args.pairs.now.items c.requires.kept c.args.arguments.now c.args.marks.now c.requires.marked c.in_ok-parts.parts.items c.in_ok-parts.ensures p refl c.in_ok-pairs-2.ensures refl joined t c.requires.joined))) c.note-2.ensures
