-- A module has at most one report.
use Rattle.std.proofs.Common.{◌≡◌, ◌<◌, ◌+◌, ℕ, zero, suc, false, List, [], ◌∷◌, ◌++◌, length, slice_get, Some, refl, sym, ap, subst, ◌∙◌, arith}
use Rattle.std.specs.Prelude.{slice_index_or, flat_map}
use Rattle.spec_expressions.specs.declared.global_use.GlobalUse.{GlobalUse}
use Rattle.ir_items.specs.judged.Plain.{PlainEntry, PlainModule}
use Rattle.spec_expressions.specs.judged.Summaries.{no_use}
use Rattle.judgement.specs.judged.Lines.{each_from, buffers, is_own, global_line, entry_lines}
use Rattle.judgement.specs.judged.Reports.{AreUses, ArePairs}
use Rattle.judgement.specs.found.ReportLaws.{OneEntryReport, OneReport}
use Rattle.judgement.proofs.Pairs.{one_order}
use Rattle.judgement.proofs.Uses.{SameBits, same_line}

-- ---- lists

-- if the text of each item is unique, so is that of the list
each_same : {X : Type 0} (none : X) (told : ℕ → X → List ℕ) (first : ℕ) (us vs : List X) → length us ≡ length vs
    → ((i n : ℕ) → n ≡ first + i → i < length us → told n (slice_index_or us i none) ≡ told n (slice_index_or vs i none))
    → each_from told first us ≡ each_from told first vs
each_same none told first [] [] many same = refl
each_same none told first [] (v ∷ vs) many same = absurd (omega (arith, many))
each_same none told first (u ∷ us) [] many same = absurd (omega (arith, many))
each_same none told first (u ∷ us) (v ∷ vs) many same =
    ap (λ line. line ++ each_from told (suc first) us) (same zero first (omega arith) (omega arith))
    ∙ ap (λ rest. told first v ++ rest) (each_same none told (suc first) us vs (omega (arith, many)) (λ i n is lt. same (suc i) n (omega (arith, is)) (omega (arith, lt))))

-- any two results at one index are equal
one_list : (E X : Type 0) (es : List E) (xs ys : List X) → length xs ≡ length es → length ys ≡ length es → ((k : ℕ) (e : E) (a b : X) → slice_get es k ≡ Some e → slice_get xs k ≡ Some a → slice_get ys k ≡ Some b → a ≡ b) → xs ≡ ys
one_list E X [] [] [] a b same = refl
one_list E X [] (y ∷ ys) bs a b same = absurd (omega (arith, a))
one_list E X [] [] (y ∷ ys) a b same = absurd (omega (arith, b))
one_list E X (e ∷ es) [] bs a b same = absurd (omega (arith, a))
one_list E X (e ∷ es) (y ∷ ys) [] a b same = absurd (omega (arith, b))
one_list E X (e ∷ es) (y ∷ ys) (z ∷ zs) a b same =
    ap (λ x. x ∷ ys) (same zero e y z refl refl refl) ∙ ap (λ xs. z ∷ xs) (one_list E X es ys zs (omega (arith, a)) (omega (arith, b)) (λ k f c d. same (suc k) f c d))

-- ---- an entry point

same_uses : (m : PlainModule) (e : PlainEntry) (us vs : List GlobalUse) → AreUses m e us → AreUses m e vs → (g : ℕ) → g < length us → is_own e g ≡ false
    → SameBits (slice_index_or us g no_use) (slice_index_or vs g no_use)
same_uses m e us vs a b g lt own =
    let within : g < length m.globals = subst (λ n. g < n) a.many lt in λ k. (
      λ h. (b.exact g k within own).1 ((a.exact g k within own).0 h),
      λ h. (a.exact g k within own).1 ((b.exact g k within own).0 h),
    )

same_globals : (m : PlainModule) (e : PlainEntry) (us vs : List GlobalUse) → AreUses m e us → AreUses m e vs → each_from (global_line e) 0 us ≡ each_from (global_line e) 0 vs
same_globals m e us vs a b =
    each_same no_use (global_line e) 0 us vs (a.many ∙ sym b.many)
    (λ i n is lt. subst (λ z. global_line e z (slice_index_or us i no_use) ≡ global_line e z (slice_index_or vs i no_use)) (let s : i ≡ n = omega (arith, is) in s)
    (same_line e i (slice_index_or us i no_use) (slice_index_or vs i no_use) (same_uses m e us vs a b i lt)))

same_pairs : (m : PlainModule) (e : PlainEntry) (ps qs : List (ℕ × ℕ)) → ArePairs m e ps → ArePairs m e qs → ps ≡ qs
same_pairs m e ps qs a b = one_order ps qs a.ordered b.ordered (λ p. (
  λ h. (b.exact p.0 p.1).1 ((a.exact p.0 p.1).0 h),
  λ h. (a.exact p.0 p.1).1 ((b.exact p.0 p.1).0 h),
))

lines_by : (number : ℕ) (e : PlainEntry) (us vs : List GlobalUse) (ps qs : List (ℕ × ℕ)) → each_from (global_line e) 0 us ≡ each_from (global_line e) 0 vs → ps ≡ qs
    → entry_lines number e us ps ≡ entry_lines number e vs qs
lines_by number e us vs ps qs a b = search (a, b)

pub one_entry_report : OneEntryReport
one_entry_report m number e a b x y =
    x.told ∙ (lines_by number e x.uses y.uses x.pairs y.pairs (same_globals m e x.uses y.uses x.are_uses y.are_uses) (same_pairs m e x.pairs y.pairs x.are_pairs y.are_pairs) ∙ sym y.told)

-- ---- a module

pub one_report : OneReport
one_report m a b x y =
    let entries : x.entries ≡ y.entries = one_list PlainEntry (List ℕ) m.entries x.entries y.entries x.are_entries.many y.are_entries.many
    (λ k e c d at first second. one_entry_report m k e c d (x.are_entries.each k e c at first) (y.are_entries.each k e d at second)) in
    x.told ∙ (ap (λ es. buffers m ++ flat_map (λ lines. lines) es) entries ∙ sym y.told)
