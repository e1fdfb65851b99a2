-- The uses and the sampled pairs of an entry point's function, with the uses of its own variables added.
use Rattle.std.proofs.Common.{◌≡◌, ◌⊎◌, ◌||◌, inl, inr, ℕ, Bool, true, false, true≢false, Option, Some, refl, sym, ap, ◌∙◌}
use Rattle.spec_expressions.specs.declared.sampling.GlobalOrArgument.TheVariants.{Global}
use Rattle.ir_items.specs.judged.Plain.{PlainEntry}
use Rattle.judgement_report.specs.Laws.{NotedIsReported}
use Rattle.spec_interface.specs.judged.Uses.{OwnUse}
use Rattle.judgement.specs.judged.Lines.{is_at, is_own}
use Rattle.spec_interface.specs.judged.Uses.{mesh_output}
use Rattle.std.proofs.lemmas.Bool.{eq-eqb}

at_itself : (own : Option ℕ) (g : ℕ) → own ≡ Some g → is_at own g ≡ true
at_itself own g e = ap (λ o. is_at o g) e ∙ eq-eqb g g refl

either_true : (a b : Bool) → (a ≡ true) ⊎ (b ≡ true) → (a || b) ≡ true
either_true true b h = refl
either_true false b (inl e) = absurd (true≢false (sym e))
either_true false b (inr e) = e

own_is : (e : PlainEntry) (g k : ℕ) → OwnUse e g k → is_own e g ≡ true
own_is e g k (inl payload) = either_true (is_at e.payload g) (is_at (mesh_output e) g) (inl (at_itself e.payload g payload.0))
own_is e g k (inr output) = either_true (is_at e.payload g) (is_at (mesh_output e) g) (inr (at_itself (mesh_output e) g output.0))

pub noted_is_reported : NotedIsReported
noted_is_reported m e info is = record {
  uses = record {
    many = is.many;
    exact = λ g k lt other. (
      λ h. elim ((is.uses g k lt).0 h) [ inl reached ↦ reached | inr own ↦ absurd (true≢false (sym (own_is e g k own) ∙ other)) ],
      λ h. (is.uses g k lt).1 (inl h),
    );
  };
  pairs = λ image sampler. is.pairs (Global image, Global sampler);
}
