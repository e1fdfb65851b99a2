-- An entry point's lines list exactly what a function reachable from it references.
use Rattle.std.proofs.Common.{◌≡◌, ◌≢◌, ◌≤◌, inl, inr, ℕ, zero, suc, ◌/◌, ◌%◌, ◌==◌, Bool, true, false, not, true≢false, List, [], ◌∷◌, ◌++◌, refl, sym, ap, subst, ◌∙◌, arith}
use Rattle.std.specs.Prelude.{slice_index_or}
use Rattle.std.specs.Int.{bit_at}
use Rattle.std.proofs.lemmas.Bool.{cases_eq, eqb-true}
use Rattle.std.proofs.lemmas.Nat.Bits.{bit_at_lowest, bit_at-suc, bit_at-zero}
use Rattle.ir_items.specs.judged.Plain.{PlainFunction, PlainModule}
use Rattle.spec_expressions.specs.declared.global_use.GlobalUse.{GlobalUse}
use Rattle.spec_expressions.specs.judged.CallChains.{Step, Calls, IsChain, chain_end, Reaches, UsesDirectly, NamesGlobal, HasUse}
use Rattle.spec_expressions.specs.judged.Summaries.{no_use}
use Rattle.spec_expressions.specs.judged.Values.{StartsAt, is_global, accessed, accessed_index}
use Rattle.judgement.specs.found.ReportLaws.{NamedAreReported}
use Rattle.judgement.specs.judged.Lines.{is_used}

-- ---- composition of call chains

end_joined : (f : PlainFunction) (first second : List Step) → chain_end f (second ++ first) ≡ chain_end (chain_end f first) second
end_joined f first [] = refl
end_joined f first (s ∷ second) = refl

joined : (m : PlainModule) (f : PlainFunction) (first second : List Step) → IsChain m f first → IsChain m (chain_end f first) second → IsChain m f (second ++ first)
joined m f first [] a b = a
joined m f first (s ∷ second) a b = (subst (λ h. Calls m h s) (sym (end_joined f first second)) b.0, joined m f first second a b.1)

-- reachability is transitive
further : (m : PlainModule) (f : PlainFunction) (P : PlainFunction → Type 0) (first : List Step) → IsChain m f first → Reaches m (chain_end f first) P → Reaches m f P
further m f P first a r = record {
  chain = r.chain ++ first;
  is_chain = joined m f first r.chain a r.is_chain;
  holds = subst P (sym (end_joined f first r.chain)) r.holds;
}

-- ---- what is used is referenced

starts_named : (f : PlainFunction) (e g : ℕ) → StartsAt f.expressions e g → NamesGlobal g f
starts_named f e g (is_global at) = (e, at)
starts_named f e g (accessed base index at below) = starts_named f base g below
starts_named f e g (accessed_index base index at below) = starts_named f base g below

used_is_named : (m : PlainModule) (f : PlainFunction) (g k : ℕ) → HasUse m f g k → Reaches m f (NamesGlobal g)
used_is_named m f g k (inl r) = record { chain = r.chain; is_chain = r.is_chain; holds = starts_named (chain_end f r.chain) r.holds.operand.handle g r.holds.starts }
used_is_named m f g k (inr q) = record { chain = q.1.chain; is_chain = q.1.is_chain; holds = q.1.holds.0 }

-- ---- what is referenced is used

none_of_zero : (u : GlobalUse) (k : ℕ) → u.0 ≡ 0 → bit_at u.0 k ≡ 1 → ⊥
none_of_zero u k is e = let z : 0 ≡ 1 = sym (bit_at-zero k) ∙ (sym (ap (λ n. bit_at n k) is) ∙ e) in omega (arith, z)

-- a referenced variable has a use
unused : (m : PlainModule) (f : PlainFunction) (g : ℕ) → ((k : ℕ) → HasUse m f g k → ⊥) → Reaches m f (NamesGlobal g) → ⊥
unused m f g none r = none 2 (inr (
  refl,
  record {
    chain = r.chain;
    is_chain = r.is_chain;
    holds = (r.holds, λ k d. none k (inl (further m f (UsesDirectly g k) r.chain r.is_chain d)));
  },
))

-- ---- bits

-- a nonzero number has a set bit, below the fuel
bit_within : (fuel n : ℕ) → n ≤ fuel → n ≢ 0 → (k : ℕ) × (bit_at n k ≡ 1)
bit_within zero n le not = absurd (not (omega (arith, le)))
bit_within (suc fuel) n le not = elim (cases_eq (n % 2) 1) [
  | inl odd ↦ (zero, bit_at_lowest n ∙ odd)
  | inr even ↦ (
      let half : n / 2 ≢ 0 = λ h. not (omega (arith, h, even)) in
      let small : n / 2 ≤ fuel = omega (arith, le, not) in
      let rest = bit_within fuel (n / 2) small half in
      (suc rest.0, bit_at-suc n rest.0 ∙ rest.1))
]

not_zero : (n : ℕ) → not (n == 0) ≡ true → n ≢ 0
not_zero n e is = true≢false (sym e ∙ ap (λ x. not (x == 0)) is)

zero_is : (n : ℕ) → not (n == 0) ≡ false → n ≡ 0
zero_is n e = eqb-true n 0 (turned (n == 0) e) where
  turned : (b : Bool) → not b ≡ false → b ≡ true
  turned true x = refl
  turned false x = absurd (true≢false x)

-- a variable with uses has a use flag
pub used_bit : (uses : List GlobalUse) (g : ℕ) → is_used (slice_index_or uses g no_use) ≡ true → (k : ℕ) × (bit_at (slice_index_or uses g no_use).0 k ≡ 1)
used_bit uses g used = let u = slice_index_or uses g no_use in bit_within u.0 u.0 (omega arith) (not_zero u.0 used)

by_cases : (b : Bool) → (b ≡ false → ⊥) → b ≡ true
by_cases true h = refl
by_cases false h = absurd (h refl)

pub named_are_reported : NamedAreReported
named_are_reported m number e lines r g within other =
    let exact = r.are_uses.exact g in
    let u = slice_index_or r.uses g no_use in (
      λ used. (
          let bit = bit_within u.0 u.0 (omega arith) (not_zero u.0 used) in
          used_is_named m e.function g bit.0 ((exact bit.0 within other).0 bit.1)),
      λ named. by_cases (is_used u) (λ e0. unused m e.function g (λ k h. none_of_zero u k (zero_is u.0 e0) ((exact k within other).1 h)) named),
    )
