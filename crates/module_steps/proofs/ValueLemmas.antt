-- From the results of the checks of values to the steps.
use Rattle.std.proofs.Common.{◌≡◌, ◌↔◌, ◌∙◌, ℕ, zero, suc, List, [], ◌∷◌, Some, Bool, false, IsTrue, length, map, slice_get, refl, sym, subst, true≢false, arith}
use Rattle.module_constants.specs.Constants.{IsConstantFault}
use Rattle.module_constants.specs.Expressions.{IsConstExpressionFault}
use Rattle.module_constants.specs.Overrides.{IsOverrideFault}
use Rattle.ir_flags.specs.Sets.{Has}
use Rattle.ir_flags.specs.declared.settings.TheConstants.ValidationFlags.{CONSTANTS}
use Rattle.ir_flags.specs.declared.settings.Capabilities.{Capabilities}
use Rattle.ir_flags.specs.declared.settings.Settings.{Settings}
use Rattle.ir_items.specs.judged.Plain.{PlainModule}
use Rattle.module_constants.specs.Firsts.{AreAccepted, IsFirstRefused}
use Rattle.module_constants.specs.Known.{AreTyped, IsKnown, module_in}
use Rattle.module_constants.specs.declared.constants.InvalidConstant.{InvalidConstant}
use Rattle.module_constants.specs.declared.context.GlobalContext.{GlobalContext}
use Rattle.module_constants.specs.declared.expressions.InvalidGlobalExpression.{InvalidGlobalExpression}
use Rattle.module_steps.specs.declared.listed_overrides.InvalidOverride.{InvalidOverride}
use Rattle.module_context.specs.AcceptedTypes.{AreAccepted as AreReported}
use Rattle.module_steps.proofs.Handles.{named_are_there}
use Rattle.module_steps.proofs.Refusals.{by_expression, by_constant, by_override}
use Rattle.module_steps.specs.Faults.{IsModuleFault}
use Rattle.module_steps.specs.Settings.{AreSettingsOf}
use Rattle.module_steps.specs.declared.error.ModuleError.TheVariants as error
use Rattle.spec_expressions.specs.judged.Constants.{ConstantOK}
use Rattle.spec_expressions.specs.judged.GlobalExpressions.{GlobalExpressionOK}
use Rattle.spec_expressions.specs.judged.Overrides.{OverrideOK}
use Rattle.spec_expressions.specs.judged.Context.{outside}
use Rattle.spec_expressions.specs.judged.ModuleHandles.{HandlesOK}
use Rattle.judgement.specs.judged.ModuleSteps.{expression, constant, override, item_count, StepOK, StepPasses, IsReached}
use Rattle.spec_expressions.specs.judged.Typing.{HasGlobalType}
use Rattle.typing_infos.specs.Types.{AreTypes}
use Rattle.typing_forms.specs.declared.resolution.TypeResolution.{TypeResolution}
use Rattle.typing_layout.specs.judged.Constness.{AreKinds}
use Rattle.typing_errors.specs.Answers.{form_given}
use Rattle.spec_expressions.specs.judged.Firsts.{FailsFirst}

pub expressions_pass : (s : Settings) (resolved : Bool) (m : PlainModule) → AreAccepted (GlobalExpressionOK s.capabilities resolved m) (item_count m expression) → StepPasses s resolved m expression
expressions_pass s resolved m all = record { each = λ index lt has. all.each index lt }

pub constants_pass : (s : Settings) (resolved : Bool) (m : PlainModule) → AreAccepted (ConstantOK m) (item_count m constant) → StepPasses s resolved m constant
constants_pass s resolved m all = record { each = λ index lt has. all.each index lt }

pub overrides_pass : (s : Settings) (resolved : Bool) (m : PlainModule) → AreAccepted (OverrideOK resolved m) (item_count m override) → StepPasses s resolved m override
overrides_pass s resolved m all = record { each = λ index lt has. all.each index lt }

pub expression_fails : (s : Settings) (resolved : Bool) (m : PlainModule) (Fault : ℕ → Type 0) (index : ℕ) → Has s.flags.0 CONSTANTS.0 → IsFirstRefused (GlobalExpressionOK s.capabilities resolved m) Fault (item_count m expression) index
    → FailsFirst (item_count m expression) (StepOK s resolved m expression) index
expression_fails s resolved m Fault index asked first = record {
  within = first.within;
  before = λ other lt has. first.before other lt;
  fails = λ ok. first.not (ok asked);
}

pub constant_fails : (s : Settings) (resolved : Bool) (m : PlainModule) (Fault : ℕ → Type 0) (index : ℕ) → Has s.flags.0 CONSTANTS.0 → IsFirstRefused (ConstantOK m) Fault (item_count m constant) index → FailsFirst (item_count m constant) (StepOK s resolved m constant) index
constant_fails s resolved m Fault index asked first = record {
  within = first.within;
  before = λ other lt has. first.before other lt;
  fails = λ ok. first.not (ok asked);
}

pub override_fails : (s : Settings) (resolved : Bool) (m : PlainModule) (Fault : ℕ → Type 0) (index : ℕ) → Has s.flags.0 CONSTANTS.0 → IsFirstRefused (OverrideOK resolved m) Fault (item_count m override) index → FailsFirst (item_count m override) (StepOK s resolved m override) index
override_fails s resolved m Fault index asked first = record {
  within = first.within;
  before = λ other lt has. first.before other lt;
  fails = λ ok. first.not (ok asked);
}

-- ---- equal settings

pub expressions_accepted : (s : Settings) (resolved : Bool) (c : GlobalContext) (m : PlainModule) → AreSettingsOf s resolved c → AreAccepted (GlobalExpressionOK c.capabilities c.overrides_resolved m) (length m.global_expressions) → StepPasses s resolved m expression
expressions_accepted s resolved c m same all =
    expressions_pass s resolved m
    (subst (λ (r : Bool). AreAccepted (GlobalExpressionOK s.capabilities r m) (length m.global_expressions)) same.overrides
    (subst (λ (p : Capabilities). AreAccepted (GlobalExpressionOK p c.overrides_resolved m) (length m.global_expressions)) same.capabilities all))

pub overrides_accepted : (s : Settings) (resolved : Bool) (c : GlobalContext) (m : PlainModule) → AreSettingsOf s resolved c → AreAccepted (OverrideOK c.overrides_resolved m) (length m.overrides) → StepPasses s resolved m override
overrides_accepted s resolved c m same all = overrides_pass s resolved m (subst (λ (r : Bool). AreAccepted (OverrideOK r m) (length m.overrides)) same.overrides all)

abbrev ExpressionFirst : Capabilities → Bool → PlainModule → InvalidGlobalExpression → Type 0
ExpressionFirst capabilities resolved m e =
    IsFirstRefused (GlobalExpressionOK capabilities resolved m) (λ handle. IsConstExpressionFault capabilities resolved m handle e.error) (length m.global_expressions) e.expression

abbrev OverrideFirst : Bool → PlainModule → InvalidOverride → Type 0
OverrideFirst resolved m e = IsFirstRefused (OverrideOK resolved m) (λ handle. IsOverrideFault resolved m handle e.error) (length m.overrides) e.id

pub expression_refused : (s : Settings) (resolved : Bool) (c : GlobalContext) (m : PlainModule) (e : InvalidGlobalExpression) → AreSettingsOf s resolved c → IsReached s resolved m expression → Has s.flags.0 CONSTANTS.0
    → IsFirstRefused (GlobalExpressionOK c.capabilities c.overrides_resolved m) (λ handle. IsConstExpressionFault c.capabilities c.overrides_resolved m handle e.error) (length m.global_expressions) e.expression
    → IsModuleFault s resolved m (error.ConstExpression e)
expression_refused s resolved c m e same reached asked first =
    let own : ExpressionFirst s.capabilities resolved m e =
    subst (λ (r : Bool). ExpressionFirst s.capabilities r m e) same.overrides (subst (λ (p : Capabilities). ExpressionFirst p c.overrides_resolved m e) same.capabilities first)
    in
    by_expression s resolved m e reached (expression_fails s resolved m (λ handle. IsConstExpressionFault s.capabilities resolved m handle e.error) e.expression asked own) own.fault

pub constant_refused : (s : Settings) (resolved : Bool) (m : PlainModule) (e : InvalidConstant) → IsReached s resolved m constant → Has s.flags.0 CONSTANTS.0
    → IsFirstRefused (ConstantOK m) (λ handle. IsConstantFault m handle e.error) (length m.constants) e.constant → IsModuleFault s resolved m (error.Constant e)
constant_refused s resolved m e reached asked first = by_constant s resolved m e reached (constant_fails s resolved m (λ handle. IsConstantFault m handle e.error) e.constant asked first) first.fault

pub override_refused : (s : Settings) (resolved : Bool) (c : GlobalContext) (m : PlainModule) (e : InvalidOverride) → AreSettingsOf s resolved c → IsReached s resolved m override → Has s.flags.0 CONSTANTS.0
    → IsFirstRefused (OverrideOK c.overrides_resolved m) (λ handle. IsOverrideFault c.overrides_resolved m handle e.error) (length m.overrides) e.id → IsModuleFault s resolved m (error.Override e)
override_refused s resolved c m e same reached asked first =
    let own : OverrideFirst resolved m e = subst (λ (r : Bool). OverrideFirst r m e) same.overrides first in
    by_override s resolved m e reached (override_fails s resolved m (λ handle. IsOverrideFault resolved m handle e.error) e.id asked own) own.fault

-- ---- preconditions of the checks of values

many_forms : {A B : Type 0} (f : A → B) (xs : List A) → length (map f xs) ≡ length xs
many_forms f [] = refl
many_forms f (x ∷ xs) = let rest = many_forms f xs in omega (arith, rest)

form_there : {A B : Type 0} (f : A → B) (xs : List A) (k : ℕ) (y : B) → slice_get (map f xs) k ≡ Some y → (x : A) × (slice_get xs k ≡ Some x) × (f x ≡ y)
form_there f [] k y e = cc (e)
form_there f (x ∷ xs) zero y e = (x, refl, cc (e))
form_there f (x ∷ xs) (suc k) y e = form_there f xs k y e

forms_typed : (m : PlainModule) (resolutions : List TypeResolution) → AreTypes (outside m) m.global_expressions resolutions → AreTyped m (map (form_given m.types) resolutions)
forms_typed m resolutions typed = record {
  many = let h = many_forms (form_given m.types) resolutions in h ∙ typed.len;
  each = λ handle t at.
      let here = form_there (form_given m.types) resolutions handle t at in
      subst (HasGlobalType m handle) here.2 (typed.each handle here.0 here.1);
}

pub known_in : (c : GlobalContext) (capabilities : Capabilities) (resolved : Bool) → HandlesOK (module_in c) → AreKinds (module_in c).global_expressions c.kinds.now
    → (resolutions : List TypeResolution) → AreTypes (outside (module_in c)) (module_in c).global_expressions resolutions → c.forms.now ≡ map (form_given (module_in c).types) resolutions
    → AreReported capabilities resolved (module_in c).types c.infos.now → IsKnown c
known_in c capabilities resolved handles kinds resolutions typed forms told = record {
  there = named_are_there (module_in c) handles;
  kinds = kinds;
  typed = subst (AreTyped (module_in c)) (sym forms) (forms_typed (module_in c) resolutions typed);
  many = told.many;
  told = record { each = λ handle i at. (told.each handle i at).info };
}

pub unasked : (T : Type 0) (asked : Bool) → IsTrue asked ↔ T → asked ≡ false → T → ⊥
unasked T asked is not_asked t = true≢false (sym (is.1 t) ∙ not_asked)
