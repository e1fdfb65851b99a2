-- A range that comes into scope, and the first of it that is there.
use Rattle.std.proofs.Common.{◌≡◌, ℕ, ◌-◌, ◌<◌, ◌≤◌, min, Bool, true, false, List, All, Contains, Option, None, Some, IfNone, IfSome, is_some, length, slice_get, get_or, inl, inr, true≢false, sym, ap, ◌∙◌, subst, arith}
use Rattle.std.specs.Bool.{MatchBool}
use Rattle.std.specs.List.{range_with_len}
use Rattle.std.proofs.lemmas.Bool.{cases_lt}
use Rattle.std.proofs.lemmas.List.Elements.{All-contains, All-from_get_or}
use Rattle.std.proofs.lemmas.List.FromFn.{get_or-range_with_len}
use Rattle.std.proofs.lemmas.Option.{slice_get_past}
use Rattle.ir_arena.specs.judged.Handles.{handles_between}
use Rattle.ir_items.specs.judged.Plain.{PlainFunction}
use Rattle.ir_sets.specs.Bits.{IsFirst, NoneBetween}
use Rattle.ir_sets.specs.Next.{AreNext}
use Rattle.function_body_checks.proofs.Ranges.{length-between, between_contains}
use Rattle.function_body_checks.proofs.Tables.{pre_true, true_pre}
use Rattle.function_body_checks.specs.Always.{always_in, AreAlways}
use Rattle.function_body_checks.specs.Carried.{AreBrought, Known, pre_known}
use Rattle.function_body_checks.specs.Lists.{AreAdded}
use Rattle.spec_statements.specs.judged.Scope.{PreEmitted}

-- what holds of no number of a range holds of none of its expressions
pub none_of_range : (P : ℕ → Type 0) (range : ℕ × ℕ) → ((e : ℕ) → range.0 ≤ e → e < range.1 → ¬ P e) → All (λ e. ¬ P e) (handles_between range)
none_of_range P range none =
    All-from_get_or (λ e. ¬ P e) (handles_between range) 0
    (λ k inside held.
    let at : k < range.1 - range.0 = omega (arith, inside, length-between range) in
    let is = get_or-range_with_len range.0 (range.1 - range.0) k 0 at in
    none (get_or (range_with_len range.0 (range.1 - range.0)) k 0) (omega (arith, is)) (omega (arith, is)) held)

-- ---- what is in scope everywhere

always_past : (f : PlainFunction) (e : ℕ) → length f.expressions ≤ e → always_in f e ≡ false
always_past f e past = ap pre_known (slice_get_past f.expressions e past)

module _ (f : PlainFunction) (next : List ℕ) (are : AreAlways f next) (range : ℕ × ℕ) where
  counted : AreNext (always_in f) (length next) next
  counted = subst (λ n. AreNext (always_in f) n next) (sym are.len) are

  none_always : NoneBetween (always_in f) range.0 (min range.1 (length next)) → All (λ e. ¬ PreEmitted f e) (handles_between range)
  none_always none =
      none_of_range (PreEmitted f) range
      (λ e reached low pre.
      let yes_ : always_in f e ≡ true = true_pre (slice_get f.expressions e) pre in
      elim (cases_lt e (length next)) [
        | inl inside ↦ true≢false (sym yes_ ∙ none e reached (omega arith))
        | inr past ↦ true≢false (sym yes_ ∙ always_past f e (omega (arith, are.len)))
      ])

  pub always_reported : (r : Option ℕ) (b : Bool) → is_some r ≡ b
      → IfNone r ((test : ℕ → Bool) → AreNext test (length next) next → NoneBetween test range.0 (min range.1 (length next)))
      → IfSome r (λ n. (test : ℕ → Bool) → AreNext test (length next) next → IsFirst test range.0 (min range.1 (length next)) n)
      → MatchBool b ((e : ℕ) × Contains (handles_between range) e × PreEmitted f e) (All (λ e. ¬ PreEmitted f e) (handles_between range))
  always_reported None true is none found = absurd (true≢false (sym is))
  always_reported None false is none found = none_always (none (always_in f) counted)
  always_reported (Some n) false is none found = absurd (true≢false is)
  always_reported (Some n) true is none found =
      let first = found (always_in f) counted in
      let reached : range.0 ≤ n = first.reached in
      let low : n < min range.1 (length next) = first.within in
      (n, between_contains range n reached (omega arith), pre_true (slice_get f.expressions n) first.passes)

-- ---- what is brought

pub known_found : (f : PlainFunction) (scope es : List ℕ) (r : Option ℕ) → IfNone r (All (λ e. ¬ Known f scope e) es) → IfSome r (λ e. Contains es e × Known f scope e)
    → (e : ℕ) × Contains es e × Known f scope e → AreBrought f scope scope es r
known_found f scope es None none some there = absurd (All-contains (λ e. ¬ Known f scope e) es there.0 none there.1 there.2)
known_found f scope es (Some e) none some there = some

pub known_stays : (f : PlainFunction) (old new es : List ℕ) (r : Option ℕ) → new ≡ old → IfNone r (All (λ e. ¬ Known f new e) es) → IfSome r (λ e. Contains es e × Known f new e)
    → (e : ℕ) × Contains es e × Contains old e → AreBrought f old new es r
known_stays f old new es r is none some there =
    subst (λ xs. AreBrought f xs new es r) is
    (known_found f new es r none some (there.0, there.1, inr (subst (λ xs. Contains xs there.0) (sym is) there.2)))

pub all_brought : (f : PlainFunction) (old new es : List ℕ) (b : Bool) → AreAdded old new es b → b ≡ true → All (λ e. ¬ PreEmitted f e) es → AreBrought f old new es None
all_brought f old new es true added is fresh = (added.0, λ k d inside known. elim known [ inl pre ↦ fresh k d inside pre | inr held ↦ added.1 k d inside held ])
all_brought f old new es false added is fresh = absurd (true≢false (sym is))

pub none_brought : (old new es : List ℕ) (b : Bool) → AreAdded old new es b → b ≡ false → (new ≡ old) × ((e : ℕ) × Contains es e × Contains old e)
none_brought old new es true added is = absurd (true≢false is)
none_brought old new es false added is = added
