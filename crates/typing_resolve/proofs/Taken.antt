-- Rules that accept several arguments, one after another.
use Rattle.std.proofs.Common.{◌≡◌, ◌∙◌, ℕ, zero, suc, ◌<◌, List, [], ◌∷◌, length, get_or, drop, filter, refl, sym, ap, arith}
use Rattle.ir_types.specs.judged.Plain.{PlainInner}
use Rattle.typing_forms.specs.declared.form.Form.{Form}
use Rattle.typing_rules.specs.declared.rules.Rule.{Rule}
use Rattle.typing_rules.specs.judged.Ranks.{accepts_if, accepts_inner}
use Rattle.typing_rules.specs.judged.Types.{value_type_of}
use Rattle.spec_expressions.specs.judged.Maths.{value_of, matching_rules}

dropped : {A : Type 0} (xs : List A) (k : ℕ) (d : A) → k < length xs → drop k xs ≡ get_or xs k d ∷ drop (suc k) xs
dropped [] k d lt = absurd (omega arith)
dropped (x ∷ xs) zero d lt = refl
dropped (x ∷ xs) (suc k) d lt = dropped xs k d (omega arith)

-- after one argument, its index and the rest leave what the rest leaves of the filtered rules
pub taken_one : (given : List Form) (place : ℕ) (d : Form) (i : PlainInner) (before after : List Rule) → place < length given
    → value_type_of i ≡ value_of (get_or given place d) → after ≡ filter (accepts_inner place i) before
    → matching_rules (suc place) (drop (suc place) given) after ≡ matching_rules place (drop place given) before
taken_one given place d i before after lt is left =
    ap (matching_rules (suc place) (drop (suc place) given)) (left ∙ ap (λ v. filter (accepts_if place v) before) is)
    ∙ sym (ap (λ xs. matching_rules place xs before) (dropped given place d lt))

-- after the last argument there is no rest
pub taken_all : (given : List Form) (place : ℕ) (rules : List Rule) → (place < length given → ⊥) → matching_rules place (drop place given) rules ≡ rules
taken_all [] zero rules n = refl
taken_all [] (suc place) rules n = refl
taken_all (g ∷ given) place rules n = ends (g ∷ given) place n
  where
    ends : (xs : List Form) (k : ℕ) → (k < length xs → ⊥) → matching_rules place (drop k xs) rules ≡ rules
    ends [] zero n = refl
    ends [] (suc k) n = refl
    ends (x ∷ xs) zero n = absurd (n (omega arith))
    ends (x ∷ xs) (suc k) n = ends xs k (λ lt. n (omega arith))
