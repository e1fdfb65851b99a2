-- At most one type, and none if there is a fault: both by one lemma, that a rule depends on its operands only.
use Rattle.std.proofs.Common.{◌≡◌, ◌∙◌, sym, refl, ap, subst, ℕ, List, [], ◌∷◌, Ok, inl, inr, zero, suc}
use Rattle.typing_layout.specs.IrTypes.{PlainExpression}
use Rattle.typing_layout.specs.TypingForms.{Form, form_of, PlainResolution, AreEquivalent}
use Rattle.typing_rules.specs.judged.Laws.{IsAmong}
use Rattle.spec_expressions.specs.judged.Context.{Context}
use Rattle.spec_expressions.specs.found.Laws.{IsFaulty}
use Rattle.spec_expressions.specs.judged.Typing.{operand_form, typing_operands, expression_rule, rule_at, HasTypeAmong, has}
use Rattle.spec_expressions.specs.declared.faults.TypingFault.{TypingFault}

same_reads : (p q : ℕ → Form) (operands : List ℕ) → ((o : ℕ) → IsAmong o operands → p o ≡ q o) → (place : ℕ) → operand_form p operands place ≡ operand_form q operands place
same_reads p q [] same place = refl
same_reads p q (o ∷ more) same zero = same o (inl refl)
same_reads p q (o ∷ more) same (suc place) = same_reads p q more (λ i h. same i (inr h)) place

pub operands_decide : (context : Context) (x : PlainExpression) (p q : ℕ → Form) → ((o : ℕ) → IsAmong o (typing_operands x) → p o ≡ q o) → rule_at context x p ≡ rule_at context x q
operands_decide context x p q same =
    let r = same_reads p q (typing_operands x) same in
    let a0 = operand_form p (typing_operands x) 0 in
    let a1 = operand_form p (typing_operands x) 1 in
    let a2 = operand_form p (typing_operands x) 2 in
    let b1 = operand_form q (typing_operands x) 1 in
    let b2 = operand_form q (typing_operands x) 2 in
    let b3 = operand_form q (typing_operands x) 3 in
    ap (λ d. expression_rule context x a0 a1 a2 d) (r 3) ∙ ap (λ c. expression_rule context x a0 a1 c b3) (r 2) ∙ ap (λ b. expression_rule context x a0 b b2 b3) (r 1) ∙ ap (λ a. expression_rule context x a b1 b2 b3) (r 0)

pub equivalent_operands_decide : (context : Context) (x : PlainExpression) (p q : ℕ → PlainResolution) → ((o : ℕ) → IsAmong o (typing_operands x) → AreEquivalent context.types (p o) (q o))
    → rule_at context x (λ o. form_of context.types (p o)) ≡ rule_at context x (λ o. form_of context.types (q o))
equivalent_operands_decide context x p q same =
    operands_decide context x (λ o. form_of context.types (p o)) (λ o. form_of context.types (q o)) (λ o h. AreEquivalent.same_form (same o h))

pub one_type : (context : Context) (xs : List PlainExpression) (place : ℕ) (s t : Form) → HasTypeAmong context xs place s → HasTypeAmong context xs place t → s ≡ t
one_type context xs place s t (has x p stands each is) (has y q stands2 each2 is2) =
    let same : x ≡ y = cc (stands, stands2) in
    let back : ((o : ℕ) → IsAmong o (typing_operands x) → HasTypeAmong context xs o (q o)) = subst (λ (z : PlainExpression). (o : ℕ) → IsAmong o (typing_operands z) → HasTypeAmong context xs o (q o)) (sym same) each2 in
    let is3 : rule_at context x q ≡ Ok t = subst (λ (z : PlainExpression). rule_at context z q ≡ Ok t) (sym same) is2 in
    let one : rule_at context x p ≡ rule_at context x q = operands_decide context x p q (λ o h. one_type context xs o (p o) (q o) (each o h) (back o h)) in
    cc (is, is3, one)

pub faulty_has_none : (context : Context) (xs : List PlainExpression) (place : ℕ) (fault : TypingFault) → IsFaulty context xs place fault → (t : Form) → HasTypeAmong context xs place t → ⊥
faulty_has_none context xs place fault faulty t (has y q stands2 each2 is2) =
    let same : faulty.expression ≡ y = cc (faulty.stands, stands2) in
    let back : ((o : ℕ) → IsAmong o (typing_operands faulty.expression) → HasTypeAmong context xs o (q o)) = subst (λ (z : PlainExpression). (o : ℕ) → IsAmong o (typing_operands z) → HasTypeAmong context xs o (q o)) (sym same) each2 in
    let is3 : rule_at context faulty.expression q ≡ Ok t = subst (λ (z : PlainExpression). rule_at context z q ≡ Ok t) (sym same) is2 in
    let one : rule_at context faulty.expression faulty.past ≡ rule_at context faulty.expression q =
    operands_decide context faulty.expression faulty.past q (λ o h. one_type context xs o (faulty.past o) (q o) (faulty.operands o h) (back o h)) in
    cc (is3, faulty.refused, one)
