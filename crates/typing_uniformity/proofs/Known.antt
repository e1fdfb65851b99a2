-- The uniformity facts of each expression satisfy the definitions.
use Rattle.std.proofs.Common.{◌≡◌, ℕ, ◌<◌, IsTrue, List, length, Option, Some, None, is_some, slice_get, refl, sym, ap, ◌∙◌, subst}
use Rattle.std.proofs.lemmas.Option.{slice_get_within}
use Rattle.ir_flags.specs.declared.settings.ValidationFlags.{ValidationFlags}
use Rattle.ir_kinds.specs.declared.diagnostics.Severity.{Severity}
use Rattle.ir_kinds.specs.declared.diagnostics.StandardFilterableTriggeringRule.TheVariants.{DerivativeUniformity}
use Rattle.ir_types.specs.judged.ExpressionPlain.{PlainExpression}
use Rattle.ir_items.specs.judged.Plain.{PlainFunction, PlainModule}
use Rattle.spec_expressions.specs.declared.uniformity.Uniformity.{Uniformity}
use Rattle.spec_expressions.specs.judged.Values.{ComesFrom, itself, through, NonUniform as Varies}
use Rattle.spec_expressions.proofs.Members.{get-within}
use Rattle.typing_uniformity.specs.Facts.{AreUniformities}
use Rattle.spec_expressions.specs.judged.Faults.{requirement_in, requirement_at}
use Rattle.spec_expressions.specs.judged.Severity.{HasSeverity}
use Rattle.spec_expressions.specs.judged.Uniformity.{UniformityFault}
use Rattle.spec_expressions.proofs.FoundLaws.{fault_as}
use Rattle.typing_uniformity.specs.Requiring.{source_in, requirement_in as requirement_known, required_of, required_view}
use Rattle.typing_uniformity.specs.Uniform.{VariesBy, IsAnswer as IsAnswerBy}
use Rattle.typing_uniformity.specs.declared.body_fault.NonUniform.{NonUniform}
use Rattle.typing_uniformity.specs.Faults.{IsAnswer}
use Rattle.typing_uniformity.proofs.Severities.{one_severity}

is_some_of : (o : Option ℕ) → IsTrue (is_some o) → (s : ℕ) × (o ≡ Some s)
is_some_of None t = absurd (cc)
is_some_of (Some s) t = (s, refl)

some_or_none : (o : Option ℕ) → (o ≡ None → ⊥) → IsTrue (is_some o)
some_or_none None h = absurd (h refl)
some_or_none (Some s) h = refl

-- a list of the same length has an element wherever the other has one
stands_too : {X Y : Type 0} (xs : List X) (ys : List Y) (e : ℕ) (y : Y) → length xs ≡ length ys → slice_get ys e ≡ Some y → (x : X) × (slice_get xs e ≡ Some x)
stands_too xs ys e y same at =
    get-within xs e (subst (λ n. e < n) (sym same) (slice_get_within ys e y at))

module _ (m : PlainModule) (f : PlainFunction) (all : List Uniformity) (are : AreUniformities m f all) where
  required_in : (e : ℕ) (o : Option Uniformity) (x : Option PlainExpression) → slice_get all e ≡ o → slice_get f.expressions e ≡ x → requirement_known o ≡ requirement_in x
  required_in e (Some u) x at there = (are.each e u at).requirements ∙ ap requirement_in there
  required_in e None None at there = refl
  required_in e None (Some x) at there = let w = stands_too all f.expressions e x are.len there in absurd (let q = sym at ∙ w.1 in cc)

  pub same_requirement : (e : ℕ) → required_of all e ≡ requirement_at f.expressions e
  same_requirement e = required_in e (slice_get all e) (slice_get f.expressions e) refl refl

  varies_in : (e : ℕ) (o : Option Uniformity) → slice_get all e ≡ o → IsTrue (is_some (source_in o)) → Varies m f e
  varies_in e None at t = absurd (cc)
  varies_in e (Some u) at t =
      let s = is_some_of u.non_uniform_result t in
      (s.0, (are.each e u at).source.found s.0 s.1)

  pub known_varies : (e : ℕ) → VariesBy all e → Varies m f e
  known_varies e t = varies_in e (slice_get all e) refl t

  comes_within : (e s : ℕ) → ComesFrom m f e s → (x : PlainExpression) × (slice_get f.expressions e ≡ Some x)
  comes_within e s (itself x there source) = (x, there)
  comes_within e s (through x operand there among comes) = (x, there)

  pub varies_known : (e : ℕ) → Varies m f e → VariesBy all e
  varies_known e v =
      let w = comes_within e v.0 v.1 in
      let u = stands_too all f.expressions e w.0 are.len w.1 in
      subst (λ o. IsTrue (is_some (source_in o))) (sym u.1) (some_or_none u.0.non_uniform_result (λ none. (are.each e u.0 u.1).source.none none v.0 v.1))

  pub answered : (flags : ValidationFlags) (severity : Severity) (found : Option NonUniform) → HasSeverity m f DerivativeUniformity severity → IsAnswerBy flags severity all f.body found → IsAnswer flags m f found
  answered flags severity found severe a = record {
    fault = λ u e. record {
      severity = severity;
      severe = severe;
      fault = fault_as flags severity f.body (required_view u) same_requirement known_varies (a.fault u e);
    };
    clear = λ e x fault.
        let same = one_severity m f DerivativeUniformity fault.severity severity fault.severe severe in
        let moved : UniformityFault flags severity (requirement_at f.expressions) (Varies m f) f.body x = subst (λ s. UniformityFault flags s (requirement_at f.expressions) (Varies m f) f.body x) same fault.fault in
        a.clear e x (fault_as flags severity f.body x (λ h. sym (same_requirement h)) varies_known moved);
  }
