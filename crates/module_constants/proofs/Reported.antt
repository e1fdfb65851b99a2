-- The `TypeInfo` in a list is that of the type at its handle.
use Rattle.std.proofs.Common.{◌≡◌, ◌≢◌, inl, inr, ◌<◌, ◌+◌, ◌∙◌, ℕ, List, [], ◌∷◌, Some, Bool, Result, Ok, Err, MatchResult, length, map, slice_get, sym, subst, refl, arith}
use Rattle.module_constants.proofs.GlobalExpressions.{expression_refuted}
use Rattle.module_constants.proofs.Items.{constant_refuted, override_refuted}
use Rattle.module_constants.specs.Constants.{IsFaultOf, IsConstantFault}
use Rattle.module_constants.specs.Expressions.{IsConstExpressionFault}
use Rattle.module_constants.specs.Overrides.{IsFaultOf as IsOverrideFaultOf, IsOverrideFault}
use Rattle.module_constants.specs.declared.constant_error.ConstantError.{ConstantError}
use Rattle.module_constants.specs.declared.override_error.OverrideError.{OverrideError}
use Rattle.typing_errors.specs.declared.const_expressions.ConstExpressionError.{ConstExpressionError}
use Rattle.typing_errors.specs.declared.const_expressions.ConstExpressionError.TheVariants as error
use Rattle.ir_arena.specs.declared.span.Span.{Span}
use Rattle.ir_types.specs.judged.ExpressionPlain.{PlainExpression}
use Rattle.ir_flags.specs.declared.settings.Capabilities.{Capabilities}
use Rattle.ir_items.specs.judged.GlobalPlain.{PlainConstant, PlainOverride}
use Rattle.ir_items.specs.found.GlobalView.{values_of}
use Rattle.ir_items.specs.judged.Plain.{PlainModule}
use Rattle.module_constants.proofs.IdLemmas.{below_or_same}
use Rattle.module_constants.specs.Required.{IsUnmet}
use Rattle.module_constants.specs.Refusals.{IsFineConstant, IsConstantRefused, IsExpressionRefused, IsFineBesideId, IsOverrideRefused}
use Rattle.spec_expressions.specs.judged.Constants.{ConstantOK}
use Rattle.spec_expressions.specs.judged.GlobalExpressions.{GlobalRequirement, of_literal, of_composition, of_value, must_be_folded, required_of, IsMet, GlobalExpressionOK}
use Rattle.spec_expressions.specs.judged.Overrides.{IsTaken, OverrideOK}
use Rattle.typing_layout.specs.judged.Constness.{IsOfKind}
use Rattle.typing_layout.specs.declared.constness.ExpressionKind.{ExpressionKind}
use Rattle.typing_layout.specs.declared.constness.ExpressionKind.TheVariants.{Runtime}

-- what is accepted below an index, and at it, is accepted below the next one
pub accepted_more : (OK : ℕ → Type 0) (place at : ℕ) → ((handle : ℕ) → handle < place → OK handle) → at ≡ place → OK at → (handle : ℕ) → handle < place + 1 → OK handle
accepted_more OK place at before same ok handle lt = elim (below_or_same handle place lt) [
  | inl less ↦ before handle less
  | inr here ↦ subst OK (same ∙ sym here) ok
]

pub many_viewed : {T View : Type 0} (view : T → View) (entries : List (T × Span)) → length (map view (values_of entries)) ≡ length entries
many_viewed view [] = refl
many_viewed view (e ∷ es) = let rest = many_viewed view es in omega (arith, rest)

-- ---- constants

pub constant_told : (m : PlainModule) (handle : ℕ) (c : PlainConstant) (r : Result (Unit {0}) ConstantError) → slice_get m.constants handle ≡ Some c → MatchResult r (λ _. IsFineConstant m c) (IsFaultOf m c)
    → MatchResult r (λ _. ConstantOK m handle) (IsConstantRefused m handle)
constant_told m handle c (Ok u) at fine = record {
  constant = c;
  at = at;
  composed = fine.composed;
  known = fine.known;
  typed = fine.typed;
}
constant_told m handle c (Err e) at wrong =
    let fault : IsConstantFault m handle e = record { constant = c; at = at; fault = wrong } in
    record { fault = fault; not = constant_refuted m handle e fault }

-- ---- global expressions

unmet : (capabilities : Capabilities) (resolved : Bool) (m : PlainModule) (handle : ℕ) (x : PlainExpression) (k : ExpressionKind) (asked : GlobalRequirement) (e : ConstExpressionError) → slice_get m.global_expressions handle ≡ Some x
    → IsOfKind m.global_expressions handle k → k ≢ Runtime → required_of x ≡ asked → IsUnmet capabilities resolved m k asked e → IsConstExpressionFault capabilities resolved m handle e
unmet capabilities resolved m handle x k (of_literal value) (error.Literal e) at of_kind known is wrong = record { expression = x; at = at; value = value; is = is; fault = wrong }
unmet capabilities resolved m handle x k (of_literal value) error.NonConstOrOverride at of_kind known is wrong = absurd wrong
unmet capabilities resolved m handle x k (of_literal value) error.NonFullyEvaluatedConst at of_kind known is wrong = absurd wrong
unmet capabilities resolved m handle x k (of_literal value) (error.Compose e) at of_kind known is wrong = absurd wrong
unmet capabilities resolved m handle x k (of_literal value) (error.Typing e) at of_kind known is wrong = absurd wrong
unmet capabilities resolved m handle x k (of_literal value) error.Other at of_kind known is wrong = absurd wrong
unmet capabilities resolved m handle x k (of_composition type components) (error.Compose e) at of_kind known is wrong =
    record { expression = x; at = at; type = type; components = components; is = is; fault = wrong }
unmet capabilities resolved m handle x k (of_composition type components) error.NonConstOrOverride at of_kind known is wrong = absurd wrong
unmet capabilities resolved m handle x k (of_composition type components) error.NonFullyEvaluatedConst at of_kind known is wrong = absurd wrong
unmet capabilities resolved m handle x k (of_composition type components) (error.Literal e) at of_kind known is wrong = absurd wrong
unmet capabilities resolved m handle x k (of_composition type components) (error.Typing e) at of_kind known is wrong = absurd wrong
unmet capabilities resolved m handle x k (of_composition type components) error.Other at of_kind known is wrong = absurd wrong
unmet capabilities resolved m handle x k of_value e at of_kind known is wrong = absurd wrong
unmet capabilities resolved m handle x k must_be_folded error.NonFullyEvaluatedConst at of_kind known is wrong =
    record { expression = x; at = at; is = is; kind = k; of_kind = of_kind; known = known; due = wrong }
unmet capabilities resolved m handle x k must_be_folded error.NonConstOrOverride at of_kind known is wrong = absurd wrong
unmet capabilities resolved m handle x k must_be_folded (error.Compose e) at of_kind known is wrong = absurd wrong
unmet capabilities resolved m handle x k must_be_folded (error.Literal e) at of_kind known is wrong = absurd wrong
unmet capabilities resolved m handle x k must_be_folded (error.Typing e) at of_kind known is wrong = absurd wrong
unmet capabilities resolved m handle x k must_be_folded error.Other at of_kind known is wrong = absurd wrong

pub expression_refused : (capabilities : Capabilities) (resolved : Bool) (m : PlainModule) (handle : ℕ) (e : ConstExpressionError) → IsConstExpressionFault capabilities resolved m handle e → IsExpressionRefused capabilities resolved m handle e
expression_refused capabilities resolved m handle e fault = record { fault = fault; not = expression_refuted capabilities resolved m handle e fault }

pub expression_told : (capabilities : Capabilities) (resolved : Bool) (m : PlainModule) (handle : ℕ) (x : PlainExpression) (k : ExpressionKind) (r : Result (Unit {0}) ConstExpressionError)
    → slice_get m.global_expressions handle ≡ Some x → IsOfKind m.global_expressions handle k → k ≢ Runtime
    → MatchResult r (λ _. IsMet capabilities resolved m k (required_of x)) (IsUnmet capabilities resolved m k (required_of x))
    → MatchResult r (λ _. GlobalExpressionOK capabilities resolved m handle) (IsExpressionRefused capabilities resolved m handle)
expression_told capabilities resolved m handle x k (Ok u) at of_kind known met = record {
  expression = x;
  at = at;
  kind = k;
  of_kind = of_kind;
  known = known;
  met = met;
}
expression_told capabilities resolved m handle x k (Err e) at of_kind known wrong =
    expression_refused capabilities resolved m handle e (unmet capabilities resolved m handle x k (required_of x) e at of_kind known refl wrong)

-- ---- overrides

pub override_fine : (resolved : Bool) (m : PlainModule) (handle : ℕ) (o : PlainOverride) → slice_get m.overrides handle ≡ Some o → ((id : ℕ) → o.id ≡ Some id → IsTaken m.overrides handle id → ⊥) → IsFineBesideId resolved m o
    → OverrideOK resolved m handle
override_fine resolved m handle o at own fine = record {
  override = o;
  at = at;
  named = fine.named;
  own = own;
  scalar = fine.scalar;
  default = fine.default;
}

pub override_wrong : (resolved : Bool) (m : PlainModule) (handle : ℕ) (o : PlainOverride) (e : OverrideError) → slice_get m.overrides handle ≡ Some o → IsOverrideFaultOf resolved m handle o e → IsOverrideRefused resolved m handle e
override_wrong resolved m handle o e at wrong =
    let fault : IsOverrideFault resolved m handle e = record { override = o; at = at; fault = wrong } in
    record { fault = fault; not = override_refuted resolved m handle e fault }
