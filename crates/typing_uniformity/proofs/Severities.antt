-- A rule has exactly one severity in a function.
use Rattle.std.proofs.Common.{◌≡◌, inl, inr, ℕ, List, [], ◌∷◌, Option, Some, None, refl, sym, subst, ◌∙◌}
use Rattle.ir_kinds.specs.declared.diagnostics.Severity.{Severity}
use Rattle.ir_kinds.specs.declared.diagnostics.StandardFilterableTriggeringRule.{StandardFilterableTriggeringRule}
use Rattle.ir_items.specs.judged.GlobalPlain.{PlainFilterNode}
use Rattle.ir_items.specs.judged.Plain.{PlainFunction, PlainModule}
use Rattle.spec_expressions.specs.judged.Severity.{FilterChain, FirstSeverity, IsNearest, HasSeverity}

one_trail : (nodes : List PlainFilterNode) (start : Option ℕ) (p q : List PlainFilterNode) → FilterChain nodes start p → FilterChain nodes start q → p ≡ q
one_trail nodes start [] [] a b = refl
one_trail nodes start [] (n ∷ q) a b = let x = a in let y = b.0 in absurd (none_some n (sym x ∙ y))
  where
    none_some : (n : PlainFilterNode) → None ≡ Some n → ⊥
    none_some n e = cc
one_trail nodes start (n ∷ p) [] a b = let x = a.0 in let y = b in absurd (none_some n (sym y ∙ x))
  where
    none_some : (n : PlainFilterNode) → None ≡ Some n → ⊥
    none_some n e = cc
one_trail nodes start (n ∷ p) (m ∷ q) a b =
    let same : m ≡ n = (let x = a.0 in let y = b.0 in cc) in
    let rest : p ≡ q = one_trail nodes n.parent p q a.1 (subst (λ (x : PlainFilterNode). FilterChain nodes x.parent q) same b.1) in
    cc

one_first : (rule : StandardFilterableTriggeringRule) (trail : List PlainFilterNode) (s t : Option Severity) → FirstSeverity rule trail s → FirstSeverity rule trail t → s ≡ t
one_first rule [] s t a b = a ∙ sym b
one_first rule (n ∷ rest) s t (inl a) (inl b) = a.1 ∙ sym b.1
one_first rule (n ∷ rest) s t (inl a) (inr b) = absurd (b.0 a.0)
one_first rule (n ∷ rest) s t (inr a) (inl b) = absurd (a.0 b.0)
one_first rule (n ∷ rest) s t (inr a) (inr b) = one_first rule rest s t a.1 b.1

one_nearest : (nodes : List PlainFilterNode) (start : Option ℕ) (rule : StandardFilterableTriggeringRule) (s t : Option Severity) → IsNearest nodes start rule s → IsNearest nodes start rule t → s ≡ t
one_nearest nodes start rule s t a b =
    one_first rule a.0 s t a.2 (subst (λ p. FirstSeverity rule p t) (one_trail nodes start b.0 a.0 b.1 a.1) b.2)

same_severity : (s t : Severity) → Some s ≡ Some t → s ≡ t
same_severity s t e = cc

some_none : {A : Type 0} (s : Severity) → Some s ≡ None → A
some_none s e = absurd (cc)

module _ (m : PlainModule) (f : PlainFunction) (rule : StandardFilterableTriggeringRule) where
  pub one_severity : (s t : Severity) → HasSeverity m f rule s → HasSeverity m f rule t → s ≡ t
  one_severity s t (inl a) (inl b) = same_severity s t (one_nearest m.filters f.leaf rule (Some s) (Some t) a b)
  one_severity s t (inl a) (inr b) = some_none s (one_nearest m.filters f.leaf rule (Some s) None a b.0)
  one_severity s t (inr a) (inl b) = some_none t (one_nearest m.filters f.leaf rule (Some t) None b a.0)
  one_severity s t (inr (a, inl c)) (inr (b, inl d)) = same_severity s t (one_nearest m.filters m.leaf rule (Some s) (Some t) c d)
  one_severity s t (inr (a, inl c)) (inr (b, inr d)) = some_none s (one_nearest m.filters m.leaf rule (Some s) None c d.0)
  one_severity s t (inr (a, inr c)) (inr (b, inl d)) = some_none t (one_nearest m.filters m.leaf rule (Some t) None d c.0)
  one_severity s t (inr (a, inr c)) (inr (b, inr d)) = c.1 ∙ sym d.1
