-- At most one payload type is kept, and what is kept after one more function.
use Rattle.std.proofs.Common.{◌≡◌, ◌≢◌, ◌⊎◌, inl, inr, ⊎_elim, ℕ, suc, ◌<◌, Option, Some, None, refl, sym, ap, subst, ◌∙◌, arith, slice_get}
use Rattle.std.proofs.lemmas.Bool.{cases_eq}
use Rattle.std.specs.Prelude.{bit_and}
use Rattle.ir_flags.specs.Sets.{Has}
use Rattle.ir_flags.specs.declared.settings.ValidationFlags.{ValidationFlags}
use Rattle.ir_flags.specs.declared.settings.TheConstants.ValidationFlags.{BLOCKS}
use Rattle.spec_expressions.specs.IrItems.{PlainFunction, PlainModule}
use Rattle.spec_statements.specs.judged.EarlierPayloads.{HasPayloadBefore, IsPayloadBefore}
use Rattle.spec_statements.specs.found.FunctionLaws.{OnePayload}
use Rattle.spec_statements.specs.judged.Payloads.{HasPayload, PayloadsOK, IsPayloadAfter}

module _ (flags : ValidationFlags) (m : PlainModule) (count : ℕ) where
  none_with_some : (type : ℕ) → IsPayloadBefore flags m count None → IsPayloadBefore flags m count (Some type) → ⊥
  none_with_some type a b = let e = b.none (λ other asked h. let n = a.some other asked h in cc) in cc

  held_apart : (x y : ℕ) → IsPayloadBefore flags m count (Some x) → IsPayloadBefore flags m count (Some y) → (x ≡ y → ⊥) → ⊥
  held_apart x y a b differ =
      let e = a.none (λ other asked h. differ (let p = a.some other asked h in let q = b.some other asked h in cc)) in
      cc

  held_once : (held other : Option ℕ) → IsPayloadBefore flags m count held → IsPayloadBefore flags m count other → held ≡ other
  held_once None None a b = refl
  held_once None (Some y) a b = absurd (none_with_some y a b)
  held_once (Some x) None a b = absurd (none_with_some x b a)
  held_once (Some x) (Some y) a b =
      elim (cases_eq x y) [
        | inl same ↦ ap Some same
        | inr differ ↦ absurd (held_apart x y a b differ)
      ]

pub one_payload : OnePayload
one_payload flags m count held other a b = held_once flags m count held other a b

-- none is kept at first
pub held_at_first : (flags : ValidationFlags) (m : PlainModule) → IsPayloadBefore flags m 0 None
held_at_first flags m = record {
  some = λ type asked h. absurd (let lt = h.before in omega (arith, lt));
  none = λ no. refl;
}

-- ---- one more function

below_or_here : (j n : ℕ) → j < suc n → (j < n) ⊎ (j ≡ n)
below_or_here j n lt = elim (cases_eq j n) [ inl same ↦ inr same | inr differ ↦ inl (omega (arith, lt, differ)) ]

module _ (flags : ValidationFlags) (m : PlainModule) (n : ℕ) (f : PlainFunction) (at : slice_get m.functions n ≡ Some f) where
  more_before : (type : ℕ) → HasPayloadBefore m n type → HasPayloadBefore m (suc n) type
  more_before type h = record { index = h.index; function = h.function; before = (let lt = h.before in omega (arith, lt)); at = h.at; traced = h.traced }

  here_before : (type : ℕ) → HasPayload m f type → HasPayloadBefore m (suc n) type
  here_before type h = record { index = n; function = f; before = omega arith; at = at; traced = h }

  -- a payload of one more function is that function's or an earlier one
  split : (type : ℕ) → HasPayloadBefore m (suc n) type → HasPayloadBefore m n type ⊎ HasPayload m f type
  split type h = elim (below_or_here h.index n h.before) [
    | inl lt ↦ inl (record { index = h.index; function = h.function; before = lt; at = h.at; traced = h.traced })
    | inr same ↦ (let e : h.function ≡ f = (let a = h.at in let b = ap (slice_get m.functions) same in cc) in inr (subst (λ g. HasPayload m g type) e h.traced))
  ]

  own_kept : (held after : Option ℕ) (type : ℕ) → Has flags.0 BLOCKS.0 → PayloadsOK m f held → IsPayloadAfter flags m f held after → HasPayload m f type → after ≡ Some type
  own_kept None after type asked ok h own = h.found asked type own refl
  own_kept (Some b) after type asked ok h own = h.kept b refl ∙ ap Some (sym (ok.as_before type b own refl))

  pub held_next : (held after : Option ℕ) → IsPayloadBefore flags m n held → (Has flags.0 BLOCKS.0 → PayloadsOK m f held) → IsPayloadAfter flags m f held after → IsPayloadBefore flags m (suc n) after
  held_next held after before ok h = record {
    some = λ type asked p. elim (split type p) [
      | inl earlier ↦ h.kept type (before.some type asked earlier)
      | inr own ↦ own_kept held after type asked (ok asked) h own
    ];
    none = λ no.
        let empty : held ≡ None = before.none (λ type asked p. no type asked (more_before type p)) in
        elim (cases_eq (bit_and flags.0 BLOCKS.0) BLOCKS.0) [
          | inl asked ↦ h.none empty (λ type own. no type asked (here_before type own))
          | inr unasked ↦ h.unasked unasked ∙ empty
        ];
  }
