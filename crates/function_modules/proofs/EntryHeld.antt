-- The type of payloads that is kept after one entry point more.
use Rattle.std.proofs.Common.{◌≡◌, ◌⊎◌, inl, inr, ℕ, suc, ◌<◌, length, Option, Some, None, sym, ap, subst, ◌∙◌, refl, arith, slice_get}
use Rattle.std.proofs.lemmas.Bool.{cases_eq}
use Rattle.std.specs.Prelude.{bit_and}
use Rattle.ir_flags.specs.Sets.{Has}
use Rattle.ir_flags.specs.declared.settings.ValidationFlags.{ValidationFlags}
use Rattle.ir_flags.specs.declared.settings.TheConstants.ValidationFlags.{BLOCKS}
use Rattle.ir_items.specs.judged.Plain.{PlainEntry, PlainModule}
use Rattle.spec_interface.specs.judged.EarlierPayloads.{HasEntryPayload, HasPayloadSoFar, IsPayloadBeforeEntry}
use Rattle.spec_statements.specs.judged.EarlierPayloads.{IsPayloadBefore}
use Rattle.spec_statements.specs.judged.Payloads.{HasPayload, PayloadsOK, IsPayloadAfter}

-- what is kept after all functions is kept before the first entry point
pub held_behind_functions : (flags : ValidationFlags) (m : PlainModule) (held : Option ℕ) → IsPayloadBefore flags m (length m.functions) held → IsPayloadBeforeEntry flags m 0 held
held_behind_functions flags m held h = record {
  some = λ type asked p. elim p [
    | inl function ↦ h.some type asked function
    | inr entry ↦ absurd (let lt = entry.before in omega (arith, lt))
  ];
  none = λ no. h.none (λ type asked p. no type asked (inl p));
}

below_or_here : (j n : ℕ) → j < suc n → (j < n) ⊎ (j ≡ n)
below_or_here j n lt = elim (cases_eq j n) [ inl same ↦ inr same | inr differ ↦ inl (omega (arith, lt, differ)) ]

module _ (flags : ValidationFlags) (m : PlainModule) (n : ℕ) (e : PlainEntry) (at : slice_get m.entries n ≡ Some e) where
  later : (type : ℕ) → HasEntryPayload m n type → HasEntryPayload m (suc n) type
  later type h = record { index = h.index; entry = h.entry; before = (let lt = h.before in omega (arith, lt)); at = h.at; traced = h.traced }

  more_before : (type : ℕ) → HasPayloadSoFar m n type → HasPayloadSoFar m (suc n) type
  more_before type (inl h) = inl h
  more_before type (inr h) = inr (later type h)

  here_before : (type : ℕ) → HasPayload m e.function type → HasPayloadSoFar m (suc n) type
  here_before type h = inr (record { index = n; entry = e; before = omega arith; at = at; traced = h })

  split_entry : (type : ℕ) → HasEntryPayload m (suc n) type → HasPayloadSoFar m n type ⊎ HasPayload m e.function type
  split_entry type h = elim (below_or_here h.index n h.before) [
    | inl lt ↦ inl (inr (record { index = h.index; entry = h.entry; before = lt; at = h.at; traced = h.traced }))
    | inr same ↦ (let x : h.entry ≡ e = (let a = h.at in let b = ap (slice_get m.entries) same in cc) in inr (subst (λ (g : PlainEntry). HasPayload m g.function type) x h.traced))
  ]

  -- a payload of one entry point more is that entry point's or one from before
  split : (type : ℕ) → HasPayloadSoFar m (suc n) type → HasPayloadSoFar m n type ⊎ HasPayload m e.function type
  split type (inl h) = inl (inl h)
  split type (inr h) = split_entry type h

  own_kept : (held after : Option ℕ) (type : ℕ) → Has flags.0 BLOCKS.0 → PayloadsOK m e.function held → IsPayloadAfter flags m e.function held after → HasPayload m e.function type → after ≡ Some type
  own_kept None after type asked ok h own = h.found asked type own refl
  own_kept (Some b) after type asked ok h own = h.kept b refl ∙ ap Some (sym (ok.as_before type b own refl))

  pub entry_held_next : (held after : Option ℕ) → IsPayloadBeforeEntry flags m n held → (Has flags.0 BLOCKS.0 → PayloadsOK m e.function held) → IsPayloadAfter flags m e.function held after
      → IsPayloadBeforeEntry flags m (suc n) after
  entry_held_next held after before ok h = record {
    some = λ type asked p. elim (split type p) [
      | inl earlier ↦ h.kept type (before.some type asked earlier)
      | inr own ↦ own_kept held after type asked (ok asked) h own
    ];
    none = λ no.
        let empty : held ≡ None = before.none (λ type asked p. no type asked (more_before type p)) in
        elim (cases_eq (bit_and flags.0 BLOCKS.0) BLOCKS.0) [
          | inl asked ↦ h.none empty (λ type own. no type asked (here_before type own))
          | inr unasked ↦ h.unasked unasked ∙ empty
        ];
  }

-- ---- one type is kept

module _ (flags : ValidationFlags) (m : PlainModule) (count : ℕ) where
  none_with_some : (type : ℕ) → IsPayloadBeforeEntry flags m count None → IsPayloadBeforeEntry flags m count (Some type) → ⊥
  none_with_some type a b = let e = b.none (λ other asked h. let n = a.some other asked h in cc) in cc

  held_apart : (x y : ℕ) → IsPayloadBeforeEntry flags m count (Some x) → IsPayloadBeforeEntry flags m count (Some y) → (x ≡ y → ⊥) → ⊥
  held_apart x y a b differ =
      let e = a.none (λ other asked h. differ (let p = a.some other asked h in let q = b.some other asked h in cc)) in
      cc

  pub one_entry_held : (held other : Option ℕ) → IsPayloadBeforeEntry flags m count held → IsPayloadBeforeEntry flags m count other → held ≡ other
  one_entry_held None None a b = refl
  one_entry_held None (Some y) a b = absurd (none_with_some y a b)
  one_entry_held (Some x) None a b = absurd (none_with_some x b a)
  one_entry_held (Some x) (Some y) a b =
      elim (cases_eq x y) [
        | inl same ↦ ap Some same
        | inr differ ↦ absurd (held_apart x y a b differ)
      ]
