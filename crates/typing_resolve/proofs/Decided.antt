-- From what is known of the operands to what is known of the result.
use Rattle.std.proofs.Common.{◌≡◌, ◌∙◌, ℕ, zero, suc, List, [], ◌∷◌, Option, Some, None, option_map, Result, Ok, Err, slice_get, inl, inr, sym, ap, subst}
use Rattle.std.specs.Borrow.{Bor}
use Rattle.std.proofs.lemmas.Option.{same_Some}
use Rattle.ir_types.specs.judged.Plain.{PlainType}
use Rattle.ir_types.specs.judged.ExpressionPlain.{PlainExpression}
use Rattle.typing_forms.specs.declared.form.Form.{Form}
use Rattle.typing_forms.specs.declared.resolution.TypeResolution.{TypeResolution}
use Rattle.typing_rules.specs.judged.Laws.{IsAmong}
use Rattle.spec_expressions.proofs.TypingLaws.{faulty_has_none}
use Rattle.spec_expressions.specs.judged.Context.{Context}
use Rattle.spec_expressions.specs.found.Laws.{IsFaulty}
use Rattle.spec_expressions.specs.judged.Typing.{form_read, operand_form, expression_rule, rule_at, typing_operands, HasTypeAmong, has}
use Rattle.spec_expressions.specs.declared.faults.TypingFault.{TypingFault}
use Rattle.typing_errors.specs.Answers.{form_given, fault_of, told, ReportsFault, IsAnswer}
use Rattle.typing_errors.specs.Operands.{given_form}
use Rattle.typing_errors.specs.declared.resolve_error.ResolveRefusal.{ResolveRefusal}
use Rattle.typing_errors.specs.declared.resolve_error.ResolveRefusal.TheVariants.{Memory, Fault}

among : (xs : List ℕ) (k o : ℕ) → slice_get xs k ≡ Some o → IsAmong o xs
among [] k o e = cc (e)
among (x ∷ xs) zero o e = inl (same_Some _ _ e)
among (x ∷ xs) (suc k) o e = inr (among xs k o e)

-- an operand is one of those that are read
pub named : (xs : List ℕ) (k o : ℕ) (operand : Option ℕ) → operand ≡ slice_get xs k → operand ≡ Some o → IsAmong o xs
named xs k o operand at is = among xs k o (sym at ∙ is)

-- the operand's type as read has the known form
pub read_at : (types : List PlainType) (forms : ℕ → Form) (post : ℕ → Bor TypeResolution → Type 0) (xs : List ℕ) (k : ℕ) (operand : Option ℕ) (found : Option (Bor TypeResolution))
    → operand ≡ slice_get xs k
    → ((o : ℕ) (r : Bor TypeResolution) → IsAmong o xs → post o r → form_given types r.now ≡ forms o)
    → (((o : ℕ) (r : Bor TypeResolution) → operand ≡ Some o → post o r → form_given types r.now ≡ forms o) → given_form types found ≡ form_read forms operand)
    → given_form types found ≡ operand_form forms xs k
read_at types forms post xs k operand found at same reads = reads (λ o r is p. same o r (named xs k o operand at is) p) ∙ ap (form_read forms) at

pub same_rule : (context : Context) (x : PlainExpression) (a b c d p q r s : Form) → a ≡ p → b ≡ q → c ≡ r → d ≡ s → expression_rule context x a b c d ≡ expression_rule context x p q r s
same_rule context x a b c d p q r s e f g h =
    ap (λ z. expression_rule context x z b c d) e ∙ ap (λ z. expression_rule context x p z c d) f ∙ ap (λ z. expression_rule context x p q z d) g ∙ ap (λ z. expression_rule context x p q r z) h

-- equal outcomes denote the same
pub told_same : (types : List PlainType) (v w : Result Form TypingFault) (result : Result TypeResolution ResolveRefusal) → v ≡ w → told types (Some v) result ≡ Some v → told types (Some w) result ≡ Some w
told_same types v w result e t = subst (λ z. told types (Some z) result ≡ Some z) e t

tells : (context : Context) (xs : List PlainExpression) (place : ℕ) (x : PlainExpression) (forms : ℕ → Form) (f : Option TypingFault)
    → slice_get xs place ≡ Some x → ((o : ℕ) → IsAmong o (typing_operands x) → HasTypeAmong context xs o (forms o))
    → option_map (λ f. Err f) f ≡ Some (rule_at context x forms) → ReportsFault context xs place f
tells context xs place x forms None stands operands t = cc (t)
tells context xs place x forms (Some f) stands operands t =
    let faulty : IsFaulty context xs place f = record { expression = x; past = forms; stands = stands; operands = operands; refused = sym (same_Some _ _ t) } in
    record { faulty = faulty; none = faulty_has_none context xs place f faulty }

-- a result that agrees with the rule for the operands' types is one for the expression
pub decided : (context : Context) (xs : List PlainExpression) (place : ℕ) (x : PlainExpression) (forms : ℕ → Form) (result : Result TypeResolution ResolveRefusal)
    → slice_get xs place ≡ Some x → ((o : ℕ) → IsAmong o (typing_operands x) → HasTypeAmong context xs o (forms o))
    → told context.types (Some (rule_at context x forms)) result ≡ Some (rule_at context x forms) → IsAnswer context xs place result
decided context xs place x forms (Ok r) stands operands t = has x forms stands operands (sym (same_Some _ _ t))
decided context xs place x forms (Err (Fault e)) stands operands t = tells context xs place x forms (fault_of e) stands operands t
decided context xs place x forms (Err (Memory e)) stands operands t = tt

-- the rule's outcome for four operands as read is that for the operands' types
pub by_reads : (context : Context) (x : PlainExpression) (forms : ℕ → Form) (post : ℕ → Bor TypeResolution → Type 0) (a b c d : Option ℕ) (p q r s : Option (Bor TypeResolution)) (result : Result TypeResolution ResolveRefusal)
    → a ≡ slice_get (typing_operands x) 0 → b ≡ slice_get (typing_operands x) 1 → c ≡ slice_get (typing_operands x) 2 → d ≡ slice_get (typing_operands x) 3
    → (((o : ℕ) (z : Bor TypeResolution) → a ≡ Some o → post o z → form_given context.types z.now ≡ forms o) → given_form context.types p ≡ form_read forms a)
    → (((o : ℕ) (z : Bor TypeResolution) → b ≡ Some o → post o z → form_given context.types z.now ≡ forms o) → given_form context.types q ≡ form_read forms b)
    → (((o : ℕ) (z : Bor TypeResolution) → c ≡ Some o → post o z → form_given context.types z.now ≡ forms o) → given_form context.types r ≡ form_read forms c)
    → (((o : ℕ) (z : Bor TypeResolution) → d ≡ Some o → post o z → form_given context.types z.now ≡ forms o) → given_form context.types s ≡ form_read forms d)
    → told context.types (Some (expression_rule context x (given_form context.types p) (given_form context.types q) (given_form context.types r) (given_form context.types s))) result
    ≡ Some (expression_rule context x (given_form context.types p) (given_form context.types q) (given_form context.types r) (given_form context.types s))
    → ((o : ℕ) (z : Bor TypeResolution) → IsAmong o (typing_operands x) → post o z → form_given context.types z.now ≡ forms o)
    → told context.types (Some (rule_at context x forms)) result ≡ Some (rule_at context x forms)
by_reads context x forms post a b c d p q r s result ea eb ec ed ra rb rc rd t same =
    told_same context.types _ (rule_at context x forms) result
    (same_rule context x _ _ _ _ _ _ _ _
    (read_at context.types forms post (typing_operands x) 0 a p ea same ra)
    (read_at context.types forms post (typing_operands x) 1 b q eb same rb)
    (read_at context.types forms post (typing_operands x) 2 c r ec same rc)
    (read_at context.types forms post (typing_operands x) 3 d s ed same rd))
    t
