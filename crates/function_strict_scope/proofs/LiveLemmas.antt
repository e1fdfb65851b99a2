-- The operands of a range that are in scope, and what comes into scope and leaves it.
use Rattle.std.proofs.Common.{◌≡◌, ℕ, zero, suc, ◌+◌, ◌-◌, ◌<◌, ◌≤◌, ◌⊎◌, max, inl, inr, ⊎_elim, Bool, true, false, ◌&&◌, List, [], ◌∷◌, ◌++◌, Contains, None, length, take, get_or, slice_get, slice_index_or, true≢false, refl, sym, ap, ◌∙◌, subst, arith}
use Rattle.std.proofs.lemmas.Bool.{cases_lt}
use Rattle.std.proofs.lemmas.List.{flat_map_more, length-append, take_at, take_all}
use Rattle.std.proofs.lemmas.List.Elements.{Contains-append_left, Contains-append_right, Contains-append_cases}
use Rattle.std.proofs.lemmas.List.FromFn.{length-range_with_len, get_or-range_with_len}
use Rattle.std.proofs.lemmas.Option.{slice_get-get_or}
use Rattle.std.specs.List.{range_with_len}
use Rattle.std.specs.Ordering.{nat_cmp}
use Rattle.std.specs.FinSet as set
use Rattle.ir_arena.specs.judged.Handles.{handles_between}
use Rattle.ir_items.specs.judged.Plain.{PlainFunction}
use Rattle.function_body_checks.proofs.Lists.{contains_at}
use Rattle.function_body_checks.proofs.Tables.{head_held, only, reported_known, reported_unknown}
use Rattle.function_body_checks.specs.Carried.{Known, known}
use Rattle.function_body_checks.specs.Lists.{listed}
use Rattle.function_operand_index.specs.Index.{IsNeeded, ArePaired}
use Rattle.function_strict_scope.specs.Live.{operands_at, IsPairedAt, IsIndexed, IsWhole, AreLive, Follows}
use Rattle.function_strict_scope.specs.Tables.{operands_given}
use Rattle.function_strict_scope.specs.Walked.{EachKnown}
use Rattle.function_strict_scope.specs.declared.live.LiveOperands.{LiveOperands}

-- ---- a range

length-between : (r : ℕ × ℕ) → length (handles_between r) ≡ r.1 - r.0
length-between r = length-range_with_len r.0 (r.1 - r.0)

between_contains : (r : ℕ × ℕ) (e : ℕ) → r.0 ≤ e → e < r.1 → Contains (handles_between r) e
between_contains r e reached within =
    let at : e - r.0 < r.1 - r.0 = omega arith in
    let on : r.0 + (e - r.0) ≡ e = omega arith in
    (e - r.0, omega (arith, at, length-between r), get_or-range_with_len r.0 (r.1 - r.0) (e - r.0) e at ∙ on)

listed-push : (ranges : List (ℕ × ℕ)) (r : ℕ × ℕ) → listed (ranges ++ r ∷ []) ≡ listed ranges ++ handles_between r
listed-push ranges r = sym (flat_map_more handles_between [] ranges r)

in_between : (r : ℕ × ℕ) (x : ℕ) → Contains (handles_between r) x → (r.0 ≤ x) × (x < r.1)
in_between r x held =
    let k = held.0 in
    let inside : k < r.1 - r.0 = omega (arith, held.1, length-between r) in
    let is : r.0 + k ≡ x = sym (get_or-range_with_len r.0 (r.1 - r.0) k x inside) ∙ held.2 in
    (omega arith, omega arith)

pub one_between : (e : ℕ) → handles_between (e, e + 1) ≡ e ∷ []
one_between e = let one : e + 1 - e ≡ 1 = omega arith in ap (range_with_len e) one

module _ (f : PlainFunction) (operands users : List ℕ) (lacking : set.FinSet nat_cmp) (ranges : List (ℕ × ℕ)) (sure : List ℕ) (are : AreLive f operands users lacking ranges sure) (r : ℕ × ℕ) (none : (k : ℕ) → ¬ IsNeeded operands users lacking r.0 r.1 k) where
  -- what a user of the range has before it is in scope
  paired_there : (e o : ℕ) → r.0 ≤ e → e < r.1 → o < r.0 → (p : ArePaired operands users o e) → (b : Bool) → set.contains lacking p.place ≡ b → Contains sure o
  paired_there e o from below before p true lacks =
      absurd (none p.place (record {
        within = p.within;
        lacks = lacks;
        from = subst (λ u. r.0 ≤ u) (sym p.used_by) from;
        below = subst (λ u. u < r.1) (sym p.used_by) below;
        before = subst (λ u. u < r.0) (sym p.uses) before;
      }))
  paired_there e o from below before p false lacks = subst (Contains sure) p.uses (are.there p.place p.within lacks)

  one_known : (now : List ℕ) (e o : ℕ) → r.0 ≤ e → e < r.1 → ((x : ℕ) → Contains sure x → Contains now x) → ((x : ℕ) → r.0 ≤ x → x < e → Contains now x) → Contains (operands_at f e) o
      → (b : Bool) → b ≡ known f now o → Known f now o
  one_known now e o from below kept before held true is = reported_known f now o true is refl
  one_known now e o from below kept before held false is =
      let unknown : ¬ Known f now o = reported_unknown f now o false is refl in
      let found : (o < e) × ArePaired operands users o e = are.indexed e o held (λ pre. unknown (inl pre)) in
      absurd (unknown (inr (elim (cases_lt o r.0) [
        | inl outside ↦ kept o (paired_there e o from below outside found.1 (set.contains lacking found.1.place) refl)
        | inr inside ↦ before o inside found.0
      ])))

  each_known : (n a : ℕ) (now : List ℕ) → r.0 ≤ a → a + n ≤ max r.0 r.1 → ((x : ℕ) → Contains sure x → Contains now x) → ((x : ℕ) → r.0 ≤ x → x < a → Contains now x) → EachKnown f now (range_with_len a n)
  each_known zero a now from short kept before = tt
  each_known (suc n) a now from short kept before =
      let below : a < r.1 = omega arith in (
        (λ k d inside.
            let o = get_or (operands_at f a) k d in
            one_known now a o from below kept before (contains_at (operands_at f a) k o (slice_get-get_or (operands_at f a) k d inside)) (known f now o) refl),
        each_known n (a + 1) (now ++ a ∷ []) (omega arith) (omega arith) (λ x held. Contains-append_left now (a ∷ []) x (kept x held))
            (λ x reached low. elim (cases_lt x a) [
              | inl early ↦ Contains-append_left now (a ∷ []) x (before x reached early)
              | inr late ↦ (let same : a ≡ x = omega arith in subst (Contains (now ++ a ∷ [])) same (Contains-append_right now (a ∷ []) a (head_held a [])))
            ]),
      )

pub all_there : (f : PlainFunction) (live : LiveOperands) (sure : List ℕ) (r : ℕ × ℕ) (first end : ℕ) → Follows f live sure → live.whole ≡ true → first ≡ r.0 → end ≡ r.1
    → ((k : ℕ) → ¬ IsNeeded live.index.operands.items live.index.users.items live.index.lacking first end k) → EachKnown f sure (handles_between r)
all_there f live sure r first end follows whole is_first is_end none =
    each_known f live.index.operands.items live.index.users.items live.index.lacking live.ranges.items sure (follows.are whole) r
    (λ k needed. none k (subst (λ a. IsNeeded live.index.operands.items live.index.users.items live.index.lacking a end k) (sym is_first) (subst (λ b. IsNeeded live.index.operands.items live.index.users.items live.index.lacking r.0 b k) (sym is_end) needed)))
    (r.1 - r.0) r.0 sure (omega arith) (omega arith) (λ x held. held) (λ x reached low. absurd (omega arith))

-- ---- what comes and goes

-- where it tells nothing, it follows anything
pub follows_nothing : (f : PlainFunction) (live : LiveOperands) (sure : List ℕ) → live.whole ≡ false → Follows f live sure
follows_nothing f live sure none = record { are = λ whole. absurd (true≢false (sym whole ∙ none)) }

paired_same : (operands users new_operands new_users : List ℕ) (o e : ℕ) → new_operands ≡ operands → new_users ≡ users → ArePaired operands users o e → ArePaired new_operands new_users o e
paired_same operands users new_operands new_users o e same_operands same_users p = record {
  place = p.place;
  within = subst (λ xs. p.place < length xs) (sym same_operands) p.within;
  used_by = ap (λ xs. slice_index_or xs p.place 0) same_users ∙ p.used_by;
  uses = ap (λ xs. slice_index_or xs p.place 0) same_operands ∙ p.uses;
}

pub are_more : (f : PlainFunction) (operands users new_operands new_users : List ℕ) (lacking new : set.FinSet nat_cmp) (ranges new_ranges : List (ℕ × ℕ)) (sure : List ℕ) (r : ℕ × ℕ) (first end : ℕ)
    → AreLive f operands users lacking ranges sure → new_operands ≡ operands → new_users ≡ users → new_ranges ≡ ranges ++ r ∷ [] → first ≡ r.0 → end ≡ r.1
    → ((k : ℕ) → k < length operands → set.contains new k ≡ false → (set.contains lacking k ≡ false) ⊎ ((first ≤ slice_index_or operands k 0) × (slice_index_or operands k 0 < end)))
    → AreLive f new_operands new_users new new_ranges (sure ++ handles_between r)
are_more f operands users new_operands new_users lacking new ranges new_ranges sure r first end are same_operands same_users pushed is_first is_end added =
    record {
      indexed = λ e o held other. (let was = are.indexed e o held other in (was.0, paired_same operands users new_operands new_users o e same_operands same_users was.1));
      brought = ap listed pushed ∙ listed-push ranges r ∙ ap (λ xs. xs ++ handles_between r) are.brought;
      there = λ k inside here. subst (λ xs. Contains (sure ++ handles_between r) (slice_index_or xs k 0)) (sym same_operands) (there k (subst (λ xs. k < length xs) same_operands inside) here);
    }
  where
    there : (k : ℕ) → k < length operands → set.contains new k ≡ false → Contains (sure ++ handles_between r) (slice_index_or operands k 0)
    there k inside here = ⊎_elim
        (λ before. Contains-append_left sure (handles_between r) (slice_index_or operands k 0) (are.there k inside before))
        (λ both. Contains-append_right sure (handles_between r) (slice_index_or operands k 0) (between_contains r (slice_index_or operands k 0) (subst (λ a. a ≤ slice_index_or operands k 0) is_first both.0) (subst (λ b. slice_index_or operands k 0 < b) is_end both.1)))
        (added k inside here)

pub are_less : (f : PlainFunction) (operands users new_operands new_users : List ℕ) (lacking new : set.FinSet nat_cmp) (ranges rest : List (ℕ × ℕ)) (sure : List ℕ) (r : ℕ × ℕ) (first end held before : ℕ)
    → AreLive f operands users lacking ranges sure → ranges ≡ rest ++ r ∷ [] → first ≡ r.0 → end ≡ r.1 → held ≡ length sure → before ≡ held - (end - first) → new_operands ≡ operands → new_users ≡ users
    → ((k : ℕ) → k < length operands → set.contains new k ≡ false → (set.contains lacking k ≡ false) × (first ≤ slice_index_or operands k 0 → slice_index_or operands k 0 < end → ⊥))
    → AreLive f new_operands new_users new rest (take before sure)
are_less f operands users new_operands new_users lacking new ranges rest sure r first end held before are popped is_first is_end many left_is same_operands same_users left =
    record {
      indexed = λ e o held other. (let was = are.indexed e o held other in (was.0, paired_same operands users new_operands new_users o e same_operands same_users was.1));
      brought = sym cut;
      there = λ k inside here. subst (λ xs. Contains (take before sure) (slice_index_or xs k 0)) (sym same_operands) (there k (subst (λ xs. k < length xs) same_operands inside) here);
    }
  where
    whole : listed rest ++ handles_between r ≡ sure
    whole = sym (listed-push rest r) ∙ ap listed (sym popped) ∙ are.brought

    short : length (listed rest) ≡ before
    short = omega (arith, many, left_is, is_first, is_end, ap length whole, length-append (listed rest) (handles_between r), length-between r)

    cut : take before sure ≡ listed rest
    cut = ap (take before) (sym whole) ∙ take_at (listed rest) (handles_between r) before short

    there : (k : ℕ) → k < length operands → set.contains new k ≡ false → Contains (take before sure) (slice_index_or operands k 0)
    there k inside here =
        let o = slice_index_or operands k 0 in
        let both = left k inside here in
        subst (λ xs. Contains xs o) (sym cut) (⊎_elim
        (λ front. front)
        (λ last. (let at = in_between r o last in absurd (both.1 (subst (λ a. a ≤ o) (sym is_first) at.0) (subst (λ b. o < b) (sym is_end) at.1))))
        (Contains-append_cases (listed rest) (handles_between r) o (subst (λ xs. Contains xs o) (sym whole) (are.there k inside both.0))))

-- the first so many of what is left are the first so many of all
pub cut_follows : (f : PlainFunction) (live : LiveOperands) (sure : List ℕ) (held count : ℕ) → Follows f live (take held sure) → (live.whole ≡ true → held ≤ count) → (held ≡ length sure) ⊎ (count ≤ held)
    → Follows f live (take count sure)
cut_follows f live sure held count follows done (inl all) = record {
  are = λ whole. (let less = done whole in subst (λ xs. AreLive f live.index.operands.items live.index.users.items live.index.lacking live.ranges.items xs) (take_all held sure (omega (arith, all)) ∙ sym (take_all count sure (omega (arith, all, less)))) (follows.are whole));
}
cut_follows f live sure held count follows done (inr more) = record {
  are = λ whole. (let less = done whole in let same : held ≡ count = omega (arith, less, more) in subst (λ n. AreLive f live.index.operands.items live.index.users.items live.index.lacking live.ranges.items (take n sure)) same (follows.are whole));
}

-- ---- where a body begins

pub begins : (f : PlainFunction) (live : LiveOperands) (operands users new_operands new_users : List ℕ) → IsWhole f operands users → live.index.operands.items ≡ new_operands → live.index.users.items ≡ new_users
    → ((k : ℕ) → k < length operands → ArePaired new_operands new_users (slice_index_or operands k 0) (slice_index_or users k 0)) → ((k : ℕ) → k < length new_operands → set.contains live.index.lacking k ≡ true) → live.ranges.items ≡ []
    → Follows f live []
begins f live operands users new_operands new_users is operands_are users_are kept lack none = record {
  are = λ w. record {
    indexed = λ e o held other. (
        let was = is.indexed e o held other in
        let p = was.1 in
        let moved = kept p.place p.within in
        let at : ArePaired new_operands new_users o e = subst (λ u. ArePaired new_operands new_users o u) p.used_by (subst (λ x. ArePaired new_operands new_users x (slice_index_or users p.place 0)) p.uses moved) in
        (was.0, paired_same new_operands new_users live.index.operands.items live.index.users.items o e operands_are users_are at)
        );
    brought = ap listed none;
    there = λ k inside here. absurd (true≢false (sym (lack k (subst (λ xs. k < length xs) operands_are inside)) ∙ here));
  };
}

nothing_past : (f : PlainFunction) (operands users : List ℕ) (e o : ℕ) → slice_get f.expressions e ≡ None → IsIndexed f operands users e o
nothing_past f operands users e o past held other =
    let none : operands_at f e ≡ [] = ap operands_given past in
    let inside = (subst (λ xs. Contains xs o) none held).1 in absurd (omega (arith, inside))

-- ---- what is paired

-- each of the operands is paired with the expression, or one of the rest
pub record LeadsPaired (f : PlainFunction) (whole : Bool) (place : ℕ) (operands users all rest : List ℕ) : Type 0 where
  pub found : whole ≡ true → (o : ℕ) → Contains all o → IsPairedAt f operands users place o ⊎ Contains rest o

pub paired_first : (f : PlainFunction) (place : ℕ) (operands users all : List ℕ) → LeadsPaired f true place operands users all all
paired_first f place operands users all = record { found = λ w o held. inr held }

pub paired_last : (f : PlainFunction) (whole : Bool) (place : ℕ) (operands users all rest : List ℕ) → LeadsPaired f whole place operands users all rest → rest ≡ []
    → whole ≡ true → (o : ℕ) → Contains all o → IsPairedAt f operands users place o
paired_last f whole place operands users all rest leads done w o held = ⊎_elim
    (λ found. found)
    (λ more. (let inside = (subst (λ xs. Contains xs o) done more).1 in absurd (omega (arith, inside))))
    (leads.found w o held)

both_true : (a b : Bool) → (a && b) ≡ true → (a ≡ true) × (b ≡ true)
both_true true b h = (refl, h)
both_true false b h = absurd (true≢false (sym h))

pub paired_more : (f : PlainFunction) (whole fits next_whole : Bool) (place : ℕ) (operands users new_operands new_users all now : List ℕ) (h : ℕ) (rest : List ℕ) → LeadsPaired f whole place operands users all now → now ≡ h ∷ rest
    → ((o e : ℕ) → ArePaired operands users o e → ArePaired new_operands new_users o e) → (fits ≡ true → IsPairedAt f new_operands new_users place h) → next_whole ≡ (whole && fits)
    → LeadsPaired f next_whole place new_operands new_users all rest
paired_more f whole fits next_whole place operands users new_operands new_users all now h rest leads is kept added next = record {
  found = λ w o held. (
      let parts = both_true whole fits (sym next ∙ w) in
      ⊎_elim
      (λ found. inl (λ other. (let was = found other in (was.0, kept o place was.1))))
      (λ more. ⊎_elim
      (λ own. inl (subst (λ x. IsPairedAt f new_operands new_users place x) (only h o own) (added parts.1)))
      (λ later. inr later)
      (Contains-append_cases (h ∷ []) rest o (subst (λ xs. Contains xs o) is more)))
      (leads.found parts.0 o held)
      );
}

pub indexed_more : (f : PlainFunction) (place : ℕ) (operands users new_operands new_users room : List ℕ) → ((e o : ℕ) → e < place → IsIndexed f operands users e o)
    → ((o e : ℕ) → ArePaired operands users o e → ArePaired new_operands new_users o e) → room ≡ operands_at f place → ((o : ℕ) → Contains room o → IsPairedAt f new_operands new_users place o)
    → (e o : ℕ) → e < place + 1 → IsIndexed f new_operands new_users e o
indexed_more f place operands users new_operands new_users room before kept is now e o inside held other =
    elim (cases_lt e place) [
      | inl early ↦ (let was = before e o early held other in (was.0, kept o e was.1))
      | inr late ↦ (
          let same : place ≡ e = omega arith in
          subst (λ x. (o < x) × ArePaired new_operands new_users o x) same (now o (subst (λ xs. Contains xs o) (sym is) (subst (λ x. Contains (operands_at f x) o) (sym same) held)) other)
          )
    ]

pub all_indexed : (f : PlainFunction) (count : ℕ) (operands users : List ℕ) → length users ≡ length operands → ((e : ℕ) → count ≤ e → slice_get f.expressions e ≡ None) → ((e o : ℕ) → e < count → IsIndexed f operands users e o) → IsWhole f operands users
all_indexed f count operands users len many before = record {
  in_step = len;
  indexed = λ e o. (elim (cases_lt e count) [
    | inl early ↦ before e o early
    | inr late ↦ nothing_past f operands users e o (many e late)
  ]);
}
