-- Expressions that are accepted one after another, and the stages that may run them.
use Rattle.std.proofs.Common.{◌≡◌, ◌⊎◌, inl, inr, rules, ℕ, ◌+◌, ◌<◌, sym, subst, arith}
use Rattle.std.specs.Int.RustNames.{bit_and}
use Rattle.ir_flags.proofs.SetLaws.{within-intersection, within-over, intersection-within_left, intersection-within_right}
use Rattle.ir_flags.specs.Sets.{Has}
use Rattle.ir_flags.specs.declared.stages.ShaderStages.{ShaderStages}
use Rattle.spec_statements.specs.judged.ExpressionStages.{all_stages}
use Rattle.spec_statements.specs.judged.BlockContext.{BlockContext}
use Rattle.spec_statements.specs.judged.Functions.{Reading}
use Rattle.function_whole.specs.Judged.{AcceptedBelow}

pub left_has : (a b x : ℕ) → Has (bit_and a b) x → Has a x
left_has a b x h = within-over x (bit_and a b) a h (intersection-within_left a b)

pub right_has : (a b x : ℕ) → Has (bit_and a b) x → Has b x
right_has a b x h = within-over x (bit_and a b) b h (intersection-within_right a b)

pub both_have : (a b x : ℕ) → Has a x → Has b x → Has (bit_and a b) x
both_have a b x h g = within-intersection a b x h g

below_or_same : (i end : ℕ) → i < end + 1 → (i < end) ⊎ (i ≡ end)
below_or_same i end lt = search rules

abbrev pub OneRun : Reading → Type 0
OneRun R = (e : ℕ) (s t : ShaderStages) → R.IsRunBy e s → R.IsRunBy e t → s ≡ t

pub none_below : (R : Reading) (c : BlockContext) (stages : ShaderStages) → stages.0 ≡ all_stages.0 → AcceptedBelow R c 0 stages
none_below R c stages all = record {
  each = λ e lt. absurd (omega (arith, lt));
  run = λ stage. (
    (λ h. (subst (λ x. Has x stage) all h, λ e own lt by. absurd (omega (arith, lt)))),
    (λ h. subst (λ x. Has x stage) (sym all) h.0),
  );
}

pub more_below : (R : Reading) (c : BlockContext) (n : ℕ) (stages own : ShaderStages) (left : ℕ) → left ≡ bit_and stages.0 own.0 → OneRun R → AcceptedBelow R c n stages
    → R.IsAccepted c.capabilities c.forms n → R.IsRunBy n own → AcceptedBelow R c (n + 1) (record { 0 = left })
more_below R c n stages own left is one before accepted runs = record {
  each = λ e lt. elim (below_or_same e n lt) [
    | inl less ↦ before.each e less
    | inr same ↦ subst (R.IsAccepted c.capabilities c.forms) (sym same) accepted
  ];
  run = λ stage. (
    (λ h. let both = subst (λ x. Has x stage) is h in let old = (before.run stage).0 (left_has stages.0 own.0 stage both) in (
      old.0,
      λ e mine lt by. elim (below_or_same e n lt) [
        | inl less ↦ old.1 e mine less by
        | inr same ↦ subst (λ (s : ShaderStages). Has s.0 stage) (one n own mine runs (subst (λ k. R.IsRunBy k mine) same by)) (right_has stages.0 own.0 stage both)
      ],
    )),
    (λ h. subst (λ x. Has x stage) (sym is) (both_have stages.0 own.0 stage
        ((before.run stage).1 (h.0, λ e mine lt by. h.1 e mine (omega (arith, lt)) by))
        (h.1 n own (omega arith) runs))),
  );
}
