-- What the parts of a check find, put together.
use Rattle.std.proofs.Common.{◌≡◌, ◌↔◌, inl, inr, ℕ, Bool, List, Option, length, [], refl, sym, subst}
use Rattle.std.specs.Int.RustNames.{bit_and}
use Rattle.typing_errors.specs.declared.error.FunctionError.{FunctionError}
use Rattle.function_interface.specs.Analysis.{Faults, IsRefusedAt, IsRefusedFor, IsFaultBefore, in_arity as with_arity, in_analysis as with_analysis}
use Rattle.function_interface.proofs.RefusedAs.{refused_anywhere, refused_as, refused_at, told_at}
use Rattle.ir_blocks.specs.judged.Places.{Place}
use Rattle.ir_items.specs.judged.Plain.{PlainFunction, PlainModule}
use Rattle.ir_places.proofs.TrailLaws.{placed, placed_then}
use Rattle.ir_places.specs.Paths.{IsPlaced, place_of}
use Rattle.ir_places.specs.declared.trail.Trail.{Trail}
use Rattle.function_interface.specs.Refusals.{IsRefusal}
use Rattle.ir_types.specs.found.Faults.{error_of, spans_of}
use Rattle.ir_types.specs.declared.refusal.Refusal.{Refusal}
use Rattle.ir_types.specs.declared.refusal.Refusal.TheVariants as refusal
use Rattle.ir_types.specs.declared.with_span.WithSpan.{WithSpan}
use Rattle.ir_flags.specs.Sets.{Has}
use Rattle.ir_flags.specs.declared.settings.TheConstants.ValidationFlags.{EXPRESSIONS, BLOCKS, STRICT_SCOPE}
use Rattle.ir_flags.specs.declared.settings.ValidationFlags.{ValidationFlags}
use Rattle.ir_flags.specs.declared.stages.ShaderStages.{ShaderStages}
use Rattle.ir_flags.specs.declared.settings.Settings.{Settings}
use Rattle.function_interface.specs.Bodies.{MayRun}
use Rattle.function_body_checks.specs.ControlFaults.{IsControlFaultAt}
use Rattle.function_body_checks.specs.Faults.{IsScopeRefusalAt}
use Rattle.spec_statements.specs.judged.ExpressionStages.{all_stages}
use Rattle.spec_statements.specs.judged.BlockContext.{BlockContext}
use Rattle.spec_statements.specs.judged.Functions.{Reading}
use Rattle.spec_statements.specs.judged.Interfaces.{InterfaceOK}
use Rattle.function_statements.specs.Faults.{IsBodyRefusalAt}
use Rattle.function_statements.specs.Payloads.{IsPayloadsFaultAt}
use Rattle.function_strict_scope.specs.Faults.{IsStrictFaultAt, IsStrictRefusalAt}
use Rattle.function_whole.proofs.Below.{left_has, right_has, both_have}
use Rattle.function_whole.specs.Faults.{AllAccepted, IsBodyInOrder, IsFaultOfBodyAt, IsUnanswered, IsFaultAfter, in_body, unanswered, IsFunctionFaultAt, in_arity, in_analysis}
use Rattle.function_whole.specs.Judged.{AcceptedBelow, AreExpressionsMet, IsBodyMet, AllAnswer, AreBlocksMet, IsBlocksFaultAt, ArePartsMet}

-- ---- refusals

pub before_function : (reading : Reading) (faults : Faults) (s : Settings) (entry : Bool) (before : Option ℕ) (m : PlainModule) (f : PlainFunction) (e : FunctionError) (p : Place)
    → IsFaultBefore faults s.flags m f e p → IsFunctionFaultAt reading faults s entry before m f e p
before_function reading faults s entry before m f e p (with_arity w) = in_arity w
before_function reading faults s entry before m f e p (with_analysis arity w) = in_analysis arity w

pub interface_refused : (t : Trail) (Rule : Type 0) (P : FunctionError → Type 0) (Q : FunctionError → Place → Type 0) → ((e : FunctionError) (p : Place) → P e → Q e p) → (r : Refusal FunctionError) → IsRefusal Rule P r → IsRefusedAt t Q r
interface_refused t Rule P Q widen (refusal.Memory e) h = tt
interface_refused t Rule P Q widen (refusal.Fault e) h = (placed t (Q (error_of e)) (widen (error_of e) (place_of t) h.0), h.1)

-- what is refused for each part of a body is refused for the body
module _ (s : Settings) (before : Option ℕ) (c : BlockContext) (t : Trail) where
  pub control_refused : (told : WithSpan FunctionError) (e : FunctionError) → error_of told ≡ e → spans_of told ≡ [] → IsPlaced t (IsControlFaultAt c.f.body e) → IsRefusedAt t (IsFaultOfBodyAt s before c) (refusal.Fault told)
  control_refused told e is none h = told_at t (IsFaultOfBodyAt s before c) told e is none (placed_then t (IsControlFaultAt c.f.body e) (IsFaultOfBodyAt s before c e) (λ p w. inl w) h)

  pub scope_refused : (r : Refusal FunctionError) → IsPlaced t (IsScopeRefusalAt s.flags c.f r) → IsRefusedAt t (IsFaultOfBodyAt s before c) r
  scope_refused (refusal.Memory e) h = tt
  scope_refused (refusal.Fault e) h = (placed_then t (IsScopeRefusalAt s.flags c.f (refusal.Fault e)) (IsFaultOfBodyAt s before c (error_of e)) (λ p w. inr (inl w.0)) h, h.2.1)

  pub strict_refused : (r : Refusal FunctionError) → IsRefusedAt t (λ e p. Has s.flags.0 STRICT_SCOPE.0 × IsStrictFaultAt c.f e p) r → IsRefusedAt t (IsFaultOfBodyAt s before c) r
  strict_refused r h = refused_at t (λ e p. Has s.flags.0 STRICT_SCOPE.0 × IsStrictFaultAt c.f e p) (IsFaultOfBodyAt s before c) (λ e p w. inr (inr (inr (inr w)))) r h

  pub statements_refused : (r : Refusal FunctionError) → IsPlaced t (IsBodyRefusalAt c r) → IsRefusedAt t (IsFaultOfBodyAt s before c) r
  statements_refused (refusal.Memory e) h = tt
  statements_refused (refusal.Fault e) h = (placed_then t (IsBodyRefusalAt c (refusal.Fault e)) (IsFaultOfBodyAt s before c (error_of e)) (λ p w. inr (inr (inl w.0))) h, h.2.1)

  pub payloads_refused : (told : WithSpan FunctionError) (e : FunctionError) → error_of told ≡ e → spans_of told ≡ [] → IsPlaced t (IsPayloadsFaultAt c.m c.f before e) → IsRefusedAt t (IsFaultOfBodyAt s before c) (refusal.Fault told)
  payloads_refused told e is none h = told_at t (IsFaultOfBodyAt s before c) told e is none (placed_then t (IsPayloadsFaultAt c.m c.f before e) (IsFaultOfBodyAt s before c e) (λ p w. inr (inr (inr (inl w)))) h)

-- strict scope, where it is asked for
pub strict_asked : (t : Trail) (flags : ValidationFlags) (f : PlainFunction) → Has flags.0 STRICT_SCOPE.0 → (r : Refusal FunctionError) → IsPlaced t (IsStrictRefusalAt f r) → IsRefusedAt t (λ e p. Has flags.0 STRICT_SCOPE.0 × IsStrictFaultAt f e p) r
strict_asked t flags f asked (refusal.Memory e) h = tt
strict_asked t flags f asked (refusal.Fault e) h = (placed_then t (IsStrictRefusalAt f (refusal.Fault e)) (λ p. Has flags.0 STRICT_SCOPE.0 × IsStrictFaultAt f (error_of e) p) (λ p w. (asked, w.0)) h, h.2.1)

-- ---- expressions

pub unasked_expressions : (R : Reading) (s : Settings) (c : BlockContext) (stages : ShaderStages) → stages.0 ≡ all_stages.0 → (Has s.flags.0 EXPRESSIONS.0 → ⊥) → AreExpressionsMet R s c stages
unasked_expressions R s c stages all none = record {
  accepted = λ asked. absurd (none asked);
  run = λ stage. ((λ h. (subst (λ x. Has x stage) all h, λ asked. absurd (none asked))), (λ h. subst (λ x. Has x stage) (sym all) h.0));
}

pub asked_expressions : (R : Reading) (s : Settings) (c : BlockContext) (stages : ShaderStages) → Has s.flags.0 EXPRESSIONS.0 → AcceptedBelow R c (length c.f.expressions) stages → AreExpressionsMet R s c stages
asked_expressions R s c stages asked met = record {
  accepted = λ h. met.each;
  run = λ stage. (
    (λ h. (((met.run stage).0 h).0, λ a. ((met.run stage).0 h).1)),
    (λ h. (met.run stage).1 (h.0, h.1 asked)),
  );
}

-- ---- the body

pub unasked_blocks : (s : Settings) (before : Option ℕ) (c : BlockContext) (callees : List ShaderStages) (stages : ShaderStages) → stages.0 ≡ all_stages.0 → (Has s.flags.0 BLOCKS.0 → ⊥) → AreBlocksMet s before c callees stages before
unasked_blocks s before c callees stages all none = record {
  body = λ asked. absurd (none asked);
  run = λ stage. ((λ h. (subst (λ x. Has x stage) all h, λ asked. absurd (none asked))), (λ h. subst (λ x. Has x stage) (sym all) h.0));
  held_after = record { kept = λ type is. is; found = λ asked. absurd (none asked); none = λ is without. is; unasked = λ h. refl };
}

pub asked_blocks : (s : Settings) (before : Option ℕ) (c : BlockContext) (callees : List ShaderStages) (stages : ShaderStages) (answered : List ℕ) (held : Option ℕ)
    → Has s.flags.0 BLOCKS.0 → IsBodyMet s before c answered held → (Has s.flags.0 EXPRESSIONS.0 → AllAnswer c) → ((stage : ℕ) → Has stages.0 stage ↔ MayRun s.subgroup_stages callees c.f.body stage)
    → AreBlocksMet s before c callees stages held
asked_blocks s before c callees stages answered held asked met all run = record {
  body = λ h. record {
    statements = met.statements;
    scope = met.scope;
    control = met.control;
    answered = record { once = met.once; asked = met.asked; each = all };
    payloads = met.payloads.payloads;
    strict = met.strict;
  };
  run = λ stage. (
    (λ h. (((run stage).0 h).known, λ a. ((run stage).0 h).each)),
    (λ h. (run stage).1 (record { known = h.0; each = h.1 asked })),
  );
  held_after = met.payloads.held_after s.flags asked;
}

pub asked_answers : (s : Settings) (c : BlockContext) → Has s.flags.0 EXPRESSIONS.0 → (r : Refusal FunctionError) → IsRefusedFor (IsUnanswered c.f) r → IsRefusedFor (λ e. Has s.flags.0 EXPRESSIONS.0 × IsUnanswered c.f e) r
asked_answers s c asked r h = refused_as (IsUnanswered c.f) (λ e. Has s.flags.0 EXPRESSIONS.0 × IsUnanswered c.f e) (λ e w. (asked, w)) r h

pub unanswered_refused : (t : Trail) (s : Settings) (before : Option ℕ) (c : BlockContext) (answered : List ℕ) (held : Option ℕ) → Has s.flags.0 BLOCKS.0 → IsBodyMet s before c answered held → (r : Refusal FunctionError)
    → IsRefusedFor (λ e. Has s.flags.0 EXPRESSIONS.0 × IsUnanswered c.f e) r → IsRefusedAt t (IsBlocksFaultAt s before c) r
unanswered_refused t s before c answered held asked met r h =
    let ordered : IsBodyInOrder s before c = record { control = met.control; scope = met.scope; once = met.once; statements = met.statements; payloads = met.payloads.payloads; strict = met.strict } in
    refused_anywhere t (λ e. Has s.flags.0 EXPRESSIONS.0 × IsUnanswered c.f e) (IsBlocksFaultAt s before c) (λ e p w. (asked, inr (ordered, w.0, w.1))) r h

pub body_refused : (t : Trail) (s : Settings) (before : Option ℕ) (c : BlockContext) → Has s.flags.0 BLOCKS.0 → (r : Refusal FunctionError) → IsRefusedAt t (IsFaultOfBodyAt s before c) r → IsRefusedAt t (IsBlocksFaultAt s before c) r
body_refused t s before c asked r h = refused_at t (IsFaultOfBodyAt s before c) (IsBlocksFaultAt s before c) (λ e p w. (asked, inl w)) r h

-- ---- all parts

pub parts_met : (R : Reading) (s : Settings) (entry : Bool) (before : Option ℕ) (c : BlockContext) (callees : List ShaderStages) (body own : ShaderStages) (held : Option ℕ) (stages : ShaderStages)
    → stages.0 ≡ bit_and body.0 own.0 → InterfaceOK c entry → AreExpressionsMet R s c own → AreBlocksMet s before c callees body held → ArePartsMet R s entry before c callees stages held
parts_met R s entry before c callees body own held stages is interface expressions blocks = record {
  interface = interface;
  expressions = expressions.accepted;
  body = blocks.body;
  run = λ stage. (
    (λ h. let both = subst (λ x. Has x stage) is h in
        let mine = (blocks.run stage).0 (left_has body.0 own.0 stage both) in
        let theirs = (expressions.run stage).0 (right_has body.0 own.0 stage both) in
        (mine.0, record { statements = mine.1; expressions = λ asked e st lt by. theirs.1 asked e st lt by })),
    (λ h. subst (λ x. Has x stage) (sym is) (both_have body.0 own.0 stage
        ((blocks.run stage).1 (h.0, h.1.statements))
        ((expressions.run stage).1 (h.0, λ asked e st lt by. h.1.expressions asked e st lt by)))),
  );
  held_after = blocks.held_after;
}

pub behind_blocks : (R : Reading) (F : Faults) (s : Settings) (entry : Bool) (before : Option ℕ) (c : BlockContext) → InterfaceOK c entry → AllAccepted R s c → (e : FunctionError) (p : Place) → IsBlocksFaultAt s before c e p → IsFaultAfter R F s entry before c e p
behind_blocks R F s entry before c interface accepted e p (asked, inl wrong) = in_body interface accepted asked wrong
behind_blocks R F s entry before c interface accepted e p (asked, inr (ordered, expressions, wrong)) = unanswered interface accepted asked ordered expressions wrong
