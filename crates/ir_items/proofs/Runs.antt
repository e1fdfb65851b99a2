-- The ranges of an emitter partition the expressions appended while it was running.
use Rattle.std.proofs.Common.{◌≡◌, ◌↔◌, inl, inr, ℕ, ◌<◌, ◌≤◌, List, [], ◌∷◌, Bool, true, false, true≢false, nat_eq, cond, refl, sym, ◌∙◌, ◌≢◌, arith}
use borrow.Author.Tests.{eqb-true, eq-eqb}
use Rattle.std.specs.List.{All, AllPairs}
use Rattle.std.proofs.lemmas.List.Elements.{All-nil, All-cons}
use Rattle.std.proofs.lemmas.List.Kept.{AllPairs-cons}
use Rattle.std.proofs.Common.{length, map, ap, subst, Some, None}
use Rattle.std.specs.Prelude.{slice_range}
use Rattle.std.specs.List.{cons_option}
use Rattle.ir_blocks.specs.IrArena.{Span, span_of_entry, total_span}
use Rattle.ir_blocks.specs.judged.Plain.{emit}
use Rattle.ir_items.specs.found.Emitted as given
use Rattle.ir_items.specs.found.Emitted.{Holds, Partition}

-- A run by its counts alone.
abbrev Run : Type 0
Run = ℕ × ℕ

abbrev AreRuns : ℕ → List Run → Type 0
AreRuns count [] = Unit {0}
AreRuns count (run ∷ runs) = (count ≤ run.0) × ((run.0 ≤ run.1) × AreRuns run.1 runs)

abbrev ranges_of : List Run → List Run
ranges_of [] = []
ranges_of (run ∷ runs) = cond (nat_eq run.0 run.1) (ranges_of runs) (run ∷ ranges_of runs)

-- the run's range before the others, if it is not empty
abbrev ranges_with : Bool → Run → List Run → List Run
ranges_with is_empty run rest = cond is_empty rest (run ∷ rest)

after_with : (b : Bool) (count : ℕ) (run : Run) (rest : List Run) → count ≤ run.0 → All (λ r. count ≤ r.0) rest → All (λ r. count ≤ r.0) (ranges_with b run rest)
after_with true count run rest le h = h
after_with false count run rest le h = All-cons (λ (r : Run). count ≤ r.0) run rest le h

ranges_after : (count : ℕ) (runs : List Run) → AreRuns count runs → All (λ r. count ≤ r.0) (ranges_of runs)
ranges_after count [] h = All-nil (λ (r : Run). count ≤ r.0)
ranges_after count (run ∷ runs) h =
    let rest = ranges_after run.1 runs h.1.1 in
    after_with (nat_eq run.0 run.1) count run (ranges_of runs) h.0 (λ k d lt. let x = rest k d lt in let y = h.0 in let z = h.1.0 in omega arith)

apart_with : (b : Bool) (run : Run) (rest : List Run) → All (λ s. run.1 ≤ s.0) rest → AllPairs (λ r s. r.1 ≤ s.0) rest → AllPairs (λ r s. r.1 ≤ s.0) (ranges_with b run rest)
apart_with true run rest after h = h
apart_with false run rest after h = AllPairs-cons (λ (r s : Run). r.1 ≤ s.0) run rest after h

ranges_apart : (count : ℕ) (runs : List Run) → AreRuns count runs → AllPairs (λ r s. r.1 ≤ s.0) (ranges_of runs)
ranges_apart count [] h = λ i j d lt past. absurd (omega arith)
ranges_apart count (run ∷ runs) h =
    apart_with (nat_eq run.0 run.1) run (ranges_of runs) (ranges_after run.1 runs h.1.1) (ranges_apart run.1 runs h.1.1)

differ : (a b : ℕ) → nat_eq a b ≡ false → a ≤ b → a < b
differ a b e le =
    let apart : a ≢ b = λ same. true≢false (sym (eq-eqb a b same) ∙ e) in
    omega arith

filled_with : (b : Bool) (run : Run) (rest : List Run) → nat_eq run.0 run.1 ≡ b → run.0 ≤ run.1 → All (λ r. r.0 < r.1) rest → All (λ r. r.0 < r.1) (ranges_with b run rest)
filled_with true run rest e le h = h
filled_with false run rest e le h = All-cons (λ (r : Run). r.0 < r.1) run rest (differ run.0 run.1 e le) h

ranges_filled : (count : ℕ) (runs : List Run) → AreRuns count runs → All (λ r. r.0 < r.1) (ranges_of runs)
ranges_filled count [] h = All-nil (λ (r : Run). r.0 < r.1)
ranges_filled count (run ∷ runs) h = filled_with (nat_eq run.0 run.1) run (ranges_of runs) refl h.1.0 (ranges_filled run.1 runs h.1.1)

none_within : (a b e : ℕ) → nat_eq a b ≡ true → (a ≤ e) × (e < b) → ⊥
none_within a b e same h = let x = eqb-true a b same in let y = h.0 in let z = h.1 in omega arith

holds_with : (b : Bool) (run : Run) (runs rest : List Run) (e : ℕ) → nat_eq run.0 run.1 ≡ b → Holds runs e ↔ Holds rest e → Holds (run ∷ runs) e ↔ Holds (ranges_with b run rest) e
holds_with true run runs rest e same h = (
  λ k. elim k [ inl here ↦ absurd (none_within run.0 run.1 e same here) | inr there ↦ h.0 there ],
  λ k. inr (h.1 k),
)
holds_with false run runs rest e same h = (
  λ k. elim k [ inl here ↦ inl here | inr there ↦ inr (h.0 there) ],
  λ k. elim k [ inl here ↦ inl here | inr there ↦ inr (h.1 there) ],
)

ranges_hold : (runs : List Run) (e : ℕ) → Holds runs e ↔ Holds (ranges_of runs) e
ranges_hold [] e = (λ k. k, λ k. k)
ranges_hold (run ∷ runs) e = holds_with (nat_eq run.0 run.1) run runs (ranges_of runs) e refl (ranges_hold runs e)

-- the counts of a run
abbrev counts : given.Run → Run
counts run = (length run.started, length run.finished)

counted : (count : ℕ) (runs : List given.Run) → given.AreRuns count runs → AreRuns count (map counts runs)
counted count [] h = h
counted count (run ∷ runs) h = (h.0, (h.1.0, counted (length run.finished) runs h.1.1))

appended : (runs : List given.Run) (e : ℕ) → given.IsAppended runs e → Holds (map counts runs) e
appended [] e k = k
appended (run ∷ runs) e k = elim k [ inl here ↦ inl here | inr there ↦ inr (appended runs e there) ]

appended_of : (runs : List given.Run) (e : ℕ) → Holds (map counts runs) e → given.IsAppended runs e
appended_of [] e k = k
appended_of (run ∷ runs) e k = elim k [ inl here ↦ inl here | inr there ↦ inr (appended_of runs e there) ]

-- the range of one `Emit` goes before the others, if there is one
one_more : (b : Bool) (first end : ℕ) (span : Span) (rest : List Run)
    → cons_option (given.range_of (cond b None (Some (emit first end, span)))) rest ≡ cond b rest ((first, end) ∷ rest)
one_more true first end span rest = refl
one_more false first end span rest = refl

-- the ranges of the `Emit` statements are those of the counts
answered : (runs : List given.Run) → given.ranges_of (map given.answer_of runs) ≡ ranges_of (map counts runs)
answered [] = refl
answered (run ∷ runs) =
    let first = length run.started in
    let end = length run.finished in
    one_more (nat_eq first end) first end (total_span (map span_of_entry (slice_range run.finished first end))) (given.ranges_of (map given.answer_of runs))
    ∙ ap (λ rest. cond (nat_eq first end) rest ((first, end) ∷ rest)) (answered runs)

pub partition : Partition
partition count runs h =
    let by_counts = map counts runs in
    let follow = counted count runs h in
    subst (given.ArePartition runs) (sym (answered runs)) record {
      apart = ranges_apart count by_counts follow;
      filled = ranges_filled count by_counts follow;
      hold = λ e. (λ k. (ranges_hold by_counts e).0 (appended runs e k), λ k. appended_of runs e ((ranges_hold by_counts e).1 k));
    }
