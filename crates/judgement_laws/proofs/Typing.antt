-- The types of expressions depend on other functions only by their results.
use Rattle.std.proofs.Common.{◌≡◌, ℕ, Option, Some, None, List, slice_get, refl, sym, ap, ◌∙◌}
use Rattle.std.specs.Prelude.{◌==◌, Result, Err, option_and_then, option_map, ok_or, if◌then◌else◌, length}
use Rattle.ir_items.specs.judged.Plain.{PlainFunction}
use Rattle.ir_items.specs.declared.functions.FunctionResult.{FunctionResult}
use Rattle.ir_kinds.specs.judged.Maths.{argument_count}
use Rattle.ir_kinds.specs.declared.maths.MathFunction.{MathFunction}
use Rattle.ir_types.specs.judged.ExpressionPlain.{PlainExpression, compose, plain}
use Rattle.ir_types.specs.declared.expressions.Expression.{Expression}
use Rattle.ir_types.specs.declared.expressions.Expression.TheVariants as x
use Rattle.typing_rules.specs.declared.rules.Rule.{Rule}
use Rattle.typing_rules.specs.judged.MathTable.{math_overloads}
use Rattle.typing_forms.specs.judged.Forms.{form_of_type}
use Rattle.typing_forms.specs.declared.form.Form.{Form}
use Rattle.spec_expressions.specs.judged.Context.{Context}
use Rattle.spec_expressions.specs.judged.Maths.{arguments, concluded, math_of, matching_rules}
use Rattle.spec_expressions.specs.judged.Typing.{HasTypeAmong, has, rule_of, rule_at}
use Rattle.spec_expressions.specs.declared.faults.TypingFault.{TypingFault}
use Rattle.spec_expressions.specs.declared.faults.TypingFault.TheVariants.{BuiltinArgumentsInvalid, FunctionReturnsVoid}
use Rattle.judgement_laws.specs.judged.Like.{Matched, LikeFunction}
use Rattle.judgement_laws.proofs.Likeness.{function_back}

abbrev pub result_at : List PlainFunction → ℕ → Option FunctionResult
result_at xs k = option_and_then (λ (f : PlainFunction). f.result) (slice_get xs k)

abbrev pub SameResults : List PlainFunction → List PlainFunction → Type 0
SameResults xs ys = (k : ℕ) → result_at ys k ≡ result_at xs k

none_at : (xs : List PlainFunction) → ((i : ℕ) (f : PlainFunction) → slice_get xs i ≡ Some f → f.result ≡ None) → (k : ℕ) → result_at xs k ≡ None
none_at xs silent k = by_item (slice_get xs k) refl
  where
    by_item : (found : Option PlainFunction) → slice_get xs k ≡ found → option_and_then (λ (f : PlainFunction). f.result) found ≡ None
    by_item None at = refl
    by_item (Some f) at = silent k f at

pub same_results : (xs ys : List PlainFunction) → Matched LikeFunction xs ys → SameResults xs ys
same_results xs ys l k =
    none_at ys (λ i g at. (let f = l.back i g at in (function_back f.2).no_result)) k ∙ sym (none_at xs (λ i f at. (l.there i f at).2.no_result) k)

module _ (c : Context) (functions : List PlainFunction) (same : SameResults c.functions functions) where
  abbrev d : Context
  d = record c { functions = functions }

  concluded_same : (r : Option Rule) → concluded d r ≡ concluded c r
  concluded_same (Some r) = refl
  concluded_same None = refl

  math_same : (fun : MathFunction) (given : Option (List Form)) → math_of d fun given ≡ math_of c fun given
  math_same fun (Some given) =
      ap (λ (r : Result Form TypingFault). if length given == argument_count fun then r else Err BuiltinArgumentsInvalid) (concluded_same (slice_get (matching_rules 0 given (math_overloads fun)) 0))
  math_same fun None = refl

  rule_of_same : (e : Expression) (p q r s : Form) → rule_of d e p q r s ≡ rule_of c e p q r s
  rule_of_same (x.CallResult function) p q r s = ap (λ (found : Option FunctionResult). ok_or (option_map (λ (of : FunctionResult). form_of_type c.types of.ty) found) FunctionReturnsVoid) (same function)
  rule_of_same (x.Math fun first second third fourth) p q r s = math_same fun (arguments second third fourth p q r s)
  rule_of_same e p q r s = refl

  rule_same : (e : PlainExpression) (past : ℕ → Form) → rule_at d e past ≡ rule_at c e past
  rule_same (compose type components) past = refl
  rule_same (plain e) past = rule_of_same e _ _ _ _

  pub typed_moves : (xs : List PlainExpression) (e : ℕ) (t : Form) → HasTypeAmong c xs e t → HasTypeAmong d xs e t
  typed_moves xs _ _ (has e past at operands given) = has e past at (λ o among. typed_moves xs o (past o) (operands o among)) (rule_same e past ∙ given)
