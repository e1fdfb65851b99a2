-- The lines of global variables, by the flags of their uses.
use Rattle.std.proofs.Common.{◌≡◌, ◌≢◌, ◌<◌, inl, inr, ℕ, Bool, true, false, not, ◌&&◌, [], ◌++◌, refl, sym, ap, ◌∙◌, arith}
use Rattle.std.specs.Prelude.{◌↔◌, codes, decimal, if◌then◌else◌}
use Rattle.std.specs.Int.{bit_at}
use Rattle.std.proofs.lemmas.Bool.{cases_eq}
use Rattle.std.proofs.lemmas.Nat.Bits.{same_from_bits, bit_at-lt}
use Rattle.judgement.specs.judged.Lines.{is_own, is_used, use_words, global_line}
use Rattle.ir_items.specs.judged.Plain.{PlainEntry}
use Rattle.spec_expressions.specs.declared.global_use.GlobalUse.{GlobalUse}

abbrev pub SameBits : GlobalUse → GlobalUse → Type 0
SameBits u v = (k : ℕ) → (bit_at u.0 k ≡ 1) ↔ (bit_at v.0 k ≡ 1)

-- two bits are equal if one is set exactly if the other is
agree : (a b : ℕ) → a < 2 → b < 2 → (a ≡ 1) ↔ (b ≡ 1) → a ≡ b
agree a b x y h = elim (cases_eq a 1) [
  | inl is ↦ is ∙ sym (h.0 is)
  | inr not ↦ (let other : b ≢ 1 = λ e. not (h.1 e) in omega (arith, x, y, not, other))
]

-- the uses have the same flags, so they are equal
pub same_use : (u v : GlobalUse) → SameBits u v → u ≡ v
same_use u v same = λ i. record { 0 = same_from_bits u.0 v.0 (λ k. agree (bit_at u.0 k) (bit_at v.0 k) (bit_at-lt u.0 k) (bit_at-lt v.0 k) (same k)) i }

line_by : (own : Bool) (number : ℕ) (u v : GlobalUse) → (own ≡ false → u ≡ v)
    → (if not own && is_used u then codes "global " ++ decimal number ++ use_words u ++ codes "\n" else []) ≡ (if not own && is_used v then codes "global " ++ decimal number ++ use_words v ++ codes "\n" else [])
line_by true number u v same = refl
line_by false number u v same = ap (λ w. if is_used w then codes "global " ++ decimal number ++ use_words w ++ codes "\n" else []) (same refl)

-- the line depends on the flags alone, and not on the entry point's own variables
pub same_line : (e : PlainEntry) (number : ℕ) (u v : GlobalUse) → (is_own e number ≡ false → SameBits u v) → global_line e number u ≡ global_line e number v
same_line e number u v same = line_by (is_own e number) number u v (λ own. same_use u v (same own))
