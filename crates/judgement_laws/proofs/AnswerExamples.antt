-- One call with a result, and nothing else.
use Rattle.std.proofs.Common.{◌≡◌, ℕ, zero, suc, [], Some, refl, sym, ◌∙◌}
use Rattle.ir_blocks.specs.judged.Places.{Place, here, later, inside, condition}
use Rattle.ir_blocks.specs.judged.Plain.{call, stop}
use Rattle.spec_statements.proofs.AnswerLaws.{by_held}
use Rattle.spec_statements.proofs.ScopeLaws.{none_held}
use Rattle.spec_statements.specs.judged.Results.{AnswersBy, DenotesResult, of_call, of_atomic, AnsweredOnce}
use Rattle.judgement_laws.specs.found.Worked.{one, over_answer}

pub none_answers : {A : Type 0} (p : Place) (e : ℕ) → AnswersBy stop p e → A
none_answers p e by = none_held e (by_held p stop e by)

only_here : (p : Place) (e : ℕ) → AnswersBy (one (call 0 [] (Some 0))) p e → p ≡ here
only_here here e by = refl
only_here (later p) e by = none_answers p e by
only_here (inside part p) e by = none_answers p e by
only_here condition e by = let x = by.1 in absurd (cc)

answers_here : AnswersBy (one (call 0 [] (Some 0))) here 0
answers_here = (call 0 [] (Some 0), refl, refl)

only_first : (e : ℕ) → DenotesResult (over_answer stop).expressions e → (p : Place) × AnswersBy (one (call 0 [] (Some 0))) p e
only_first zero stands = (here, answers_here)
only_first (suc e) (of_call at) = let x = at in absurd (cc)
only_first (suc e) (of_atomic at) = let x = at in absurd (cc)

pub answered_once : AnsweredOnce (record { 0 = 63 }) (over_answer (one (call 0 [] (Some 0))))
answered_once = record {
  once = λ p q e left right. only_here p e left ∙ sym (only_here q e right);
  asked = λ p e by. refl;
  each = λ asked e stands. only_first e stands;
}
