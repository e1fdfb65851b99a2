-- Texts that are written piece by piece.
use Rattle.std.proofs.Common.{◌≡◌, ◌≤◌, ◌+◌, ◌⊎◌, inl, inr, ℕ, zero, suc, List, [], ◌∷◌, ◌++◌, length, drop, filter_map, slice_get, Some, refl, sym, ap, subst, ◌∙◌, arith}
use Rattle.std.specs.List.{cons_option}
use Rattle.std.specs.Prelude.{◌↔◌}
use Rattle.std.proofs.lemmas.List.{append_assoc, append-nil, drop_all, flat_map_more}
use Rattle.std.proofs.lemmas.Option.{same_Some}
use Rattle.spec_expressions.specs.judged.Pairs.{SamplingPair}
use Rattle.spec_expressions.specs.declared.sampling.GlobalOrArgument.{GlobalOrArgument}
use Rattle.spec_expressions.specs.declared.sampling.GlobalOrArgument.TheVariants.{Argument, Global}
use Rattle.typing_infos.specs.declared.function_info.FunctionInfo.{FunctionInfo}
use Rattle.ir_items.specs.judged.Plain.{PlainEntry, PlainModule}
use Rattle.judgement_report.specs.Reported.{numbers_in, numbers_of, IsEntryInfo, Tells, AreLinesOf, AreEntryLines}
use Rattle.typing_rules.specs.judged.Laws.{IsAmong}
use Rattle.judgement.specs.judged.Lines.{buffers, each_from}
use Rattle.judgement.specs.judged.Reports.{IsEntryReport, IsReport}

-- one more piece
pub further : (before middle after a b : List ℕ) → middle ≡ before ++ a → after ≡ middle ++ b → after ≡ before ++ (a ++ b)
further before middle after a b first second = second ∙ (ap (λ t. t ++ b) first ∙ append_assoc before a b)

-- ---- items in order

each_next : {X : Type 0} (told : ℕ → X → List ℕ) (first : ℕ) (xs : List X) (place : ℕ) (x : X) → slice_get xs place ≡ Some x
    → each_from told first (drop place xs) ≡ told first x ++ each_from told (suc first) (drop (suc place) xs)
each_next told first [] place x at = let h = at in absurd (cc)
each_next told first (y ∷ ys) zero x at = let is : y ≡ x = (let h = at in cc) in ap (λ z. told first z ++ each_from told (suc first) ys) is
each_next told first (y ∷ ys) (suc place) x at = each_next told first ys place x at

-- one more item is written
pub each_more : {X : Type 0} (told : ℕ → X → List ℕ) (xs : List X) (number : ℕ) (x : X) (middle after whole : List ℕ) → slice_get xs number ≡ Some x
    → middle ++ each_from told number (drop number xs) ≡ whole → after ≡ middle ++ told number x → after ++ each_from told (number + 1) (drop (number + 1) xs) ≡ whole
each_more told xs number x middle after whole at is written =
    let next : suc number ≡ number + 1 = omega arith in
    subst (λ n. after ++ each_from told n (drop n xs) ≡ whole) next
    (ap (λ t. t ++ each_from told (suc number) (drop (suc number) xs)) written
    ∙ (append_assoc middle (told number x) (each_from told (suc number) (drop (suc number) xs)) ∙ (ap (λ t. middle ++ t) (sym (each_next told number xs number x at)) ∙ is)))

-- and so all are
pub each_done : {X : Type 0} (told : ℕ → X → List ℕ) (xs : List X) (number : ℕ) (text whole : List ℕ) → length xs ≤ number → text ++ each_from told number (drop number xs) ≡ whole → text ≡ whole
each_done told xs number text whole past is = sym (append-nil text) ∙ (sym (ap (λ rest. text ++ each_from told number rest) (drop_all number xs past)) ∙ is)

-- ---- pairs

global_is : {x y : ℕ} → Global x ≡ Global y → x ≡ y
global_is e = cc (e)

module _ (image sampler : ℕ) where
  -- the two indices are those of the two global variables
  next_numbered : (a b : GlobalOrArgument) (rest : List (ℕ × ℕ)) (pairs : List SamplingPair) → IsAmong (image, sampler) rest ↔ IsAmong (Global image, Global sampler) pairs
      → IsAmong (image, sampler) (cons_option (numbers_in a b) rest) ↔ IsAmong (Global image, Global sampler) ((a, b) ∷ pairs)
  next_numbered (Global x) (Global y) rest pairs r = (
    λ h. elim h [ inl is ↦ inl (λ i. (Global (is i).0, Global (is i).1)) | inr later ↦ inr (r.0 later) ],
    λ h. elim h [
      | inl is ↦
          (let first : x ≡ image = global_is (ap (λ (p : SamplingPair). p.0) is) in
          let second : y ≡ sampler = global_is (ap (λ (p : SamplingPair). p.1) is) in
          inl (λ i. (first i, second i)))
      | inr later ↦ inr (r.1 later)
    ],
  )
  next_numbered (Global x) (Argument y) rest pairs r = (λ h. inr (r.0 h), λ h. elim h [ inl is ↦ cc (ap (λ (p : SamplingPair). p.1) is) | inr later ↦ r.1 later ])
  next_numbered (Argument x) b rest pairs r = (λ h. inr (r.0 h), λ h. elim h [ inl is ↦ cc (ap (λ (p : SamplingPair). p.0) is) | inr later ↦ r.1 later ])

  numbered : (pairs : List SamplingPair) → IsAmong (image, sampler) (filter_map numbers_of pairs) ↔ IsAmong (Global image, Global sampler) pairs
  numbered [] = (λ none. none, λ none. none)
  numbered (p ∷ pairs) = next_numbered p.0 p.1 (filter_map numbers_of pairs) pairs (numbered pairs)

-- the text written for an entry point is its report
pub reported : (m : PlainModule) (number : ℕ) (e : PlainEntry) (info : FunctionInfo) (lines : List ℕ) → IsEntryInfo m e info → AreLinesOf number e info lines → IsEntryReport m number e lines
reported m number e info lines is written = record {
  uses = info.uses.items;
  pairs = written.pairs;
  are_uses = is.uses;
  are_pairs = record {
    ordered = written.ordered;
    exact = λ image sampler. let both = numbered image sampler info.sampling.items in (
      λ h. (is.pairs image sampler).0 (both.0 ((written.same (image, sampler)).0 h)),
      λ h. (written.same (image, sampler)).1 (both.1 ((is.pairs image sampler).1 h)),
    );
  };
  told = written.told;
}

-- ---- entry points

pub none_yet : (m : PlainModule) (text : List ℕ) → Tells (AreEntryLines m 0) text text
none_yet m text = record {
  lines = [];
  behind = sym (append-nil text);
  holds = record {
    entries = [];
    many = refl;
    each = λ number e told at none. let h = none in absurd (cc);
    told = refl;
  };
}

last_or_before : {X : Type 0} (xs : List X) (x : X) (k : ℕ) (y : X) → slice_get (xs ++ x ∷ []) k ≡ Some y → (slice_get xs k ≡ Some y) ⊎ ((k ≡ length xs) × (x ≡ y))
last_or_before [] x zero y is = inr (refl, (let h = is in cc))
last_or_before [] x (suc k) y is = let h = is in absurd (cc)
last_or_before (z ∷ zs) x zero y is = inl is
last_or_before (z ∷ zs) x (suc k) y is = elim (last_or_before zs x k y is) [
  | inl before ↦ inl before
  | inr last ↦ inr (ap suc last.0, last.1)
]

length_more : {X : Type 0} (xs : List X) (x : X) → length (xs ++ x ∷ []) ≡ length xs + 1
length_more [] x = refl
length_more (y ∷ ys) x = let h = length_more ys x in omega (arith, h)

one_more_each : (m : PlainModule) (number : ℕ) (e : PlainEntry) (entries : List (List ℕ)) (lines : List ℕ) → length entries ≡ number → slice_get m.entries number ≡ Some e → IsEntryReport m number e lines
    → ((k : ℕ) (d : PlainEntry) (told : List ℕ) → slice_get m.entries k ≡ Some d → slice_get entries k ≡ Some told → IsEntryReport m k d told)
    → (k : ℕ) (d : PlainEntry) (told : List ℕ) → slice_get m.entries k ≡ Some d → slice_get (entries ++ lines ∷ []) k ≡ Some told → IsEntryReport m k d told
one_more_each m number e entries lines many at is before k d told there found = elim (last_or_before entries lines k told found) [
  | inl earlier ↦ before k d told there earlier
  | inr last ↦ (
      let place : number ≡ k = sym many ∙ sym last.0 in
      let same : e ≡ d = (let h = sym at ∙ (ap (slice_get m.entries) place ∙ there) in cc) in
      subst (λ j. IsEntryReport m j d told) place (subst (λ f. IsEntryReport m number f told) same (subst (IsEntryReport m number e) last.1 is)))
]

-- one more entry point
pub one_more : (m : PlainModule) (number : ℕ) (e : PlainEntry) (info : FunctionInfo) (before middle after : List ℕ) → slice_get m.entries number ≡ Some e → IsEntryInfo m e info
    → Tells (AreEntryLines m number) before middle → Tells (AreLinesOf number e info) middle after → Tells (AreEntryLines m (number + 1)) before after
one_more m number e info before middle after at is so_far next =
    let held = so_far.holds in record {
      lines = so_far.lines ++ next.lines;
      behind = further before middle after so_far.lines next.lines so_far.behind next.behind;
      holds = record {
        entries = held.entries ++ next.lines ∷ [];
        many = length_more held.entries next.lines ∙ ap (λ n. n + 1) held.many;
        each = one_more_each m number e held.entries next.lines held.many at (reported m number e info next.lines is next.holds) held.each;
        told = ap (λ t. t ++ next.lines) held.told ∙ flat_map_more (λ told. told) [] held.entries next.lines;
      };
    }

-- ---- the whole

-- buffers, and then all entry points
pub whole : (m : PlainModule) (before middle after : List ℕ) → middle ≡ before ++ buffers m → Tells (AreEntryLines m (length m.entries)) middle after → Tells (IsReport m) before after
whole m before middle after first rest = record {
  lines = buffers m ++ rest.lines;
  behind = further before middle after (buffers m) rest.lines first rest.behind;
  holds = record {
    entries = rest.holds.entries;
    are_entries = record { many = rest.holds.many; each = rest.holds.each };
    told = ap (λ lines. buffers m ++ lines) rest.holds.told;
  };
}

-- after nothing else
pub alone : (m : PlainModule) (before after : List ℕ) → before ≡ [] → Tells (IsReport m) before after → IsReport m after
alone m before after none all = subst (IsReport m) (sym (all.behind ∙ ap (λ t. t ++ all.lines) none)) all.holds
