-- Laws of a check of a list of bytes with an empty output.
use Rattle.std.proofs.Common.{◌≡◌, ◌↔◌, ℕ, List, [], Option, Some, IsTrue, codes, nat_eq, sym, subst}
use Rattle.std.specs.List.{starts_with}
use Rattle.shader_check.specs.judged.Theorem.{Answers, IsExpected}
use Rattle.shader_check.specs.declared.check.Verdict.{Verdict}
use Rattle.shader_check.specs.declared.check.Verdict.TheVariants.{Accepted}
use Rattle.shader_check.proofs.Promises.{accepted_texts_are_sound_lem}
use Rattle.shader_check_c.specs.Answers.{IsAnswerOn}

in_memory : (bytes : List ℕ) (left : Option (List ℕ)) (verdict : Verdict) (items : List ℕ) → Answers (Some bytes) left (Some []) (Some items) verdict → IsAnswerOn bytes verdict items
in_memory bytes left verdict items a =
    let expected : IsExpected bytes items = subst (IsExpected bytes) (sym a.received) a.expected.expected_for_all in
    let begins : (verdict ≡ Accepted) ↔ IsTrue (starts_with nat_eq items (codes "accepted")) = subst (λ t. (verdict ≡ Accepted) ↔ IsTrue (starts_with nat_eq t (codes "accepted"))) (sym a.received) a.verdict_is in
    record {
      expected = expected;
      verdict_is = begins;
      sound = λ is. accepted_texts_are_sound_lem bytes items expected (begins.0 is);
    }

pub answered : (bytes : List ℕ) (left left' held held' : Option (List ℕ)) (verdict : Verdict) (items : List ℕ) → left ≡ Some bytes → held ≡ Some [] → held' ≡ Some items → Answers left left' held held' verdict → IsAnswerOn bytes verdict items
answered bytes left left' held held' verdict items e1 e2 e3 a =
    in_memory bytes left' verdict items (subst (λ x. Answers (Some bytes) left' (Some []) x verdict) e3 (subst (λ x. Answers (Some bytes) left' x held' verdict) e2 (subst (λ x. Answers x left' held held' verdict) e1 a)))
