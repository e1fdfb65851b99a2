-- A module has one verdict with the same settings, at one step and one item.
use Rattle.std.proofs.Common.{◌≡◌, inl, inr, ℕ, Bool, Option, Some, None, refl, sym, ap, ◌∙◌}
use Rattle.ir_flags.specs.declared.settings.Settings.{Settings}
use Rattle.typing_errors.specs.declared.const_expressions.ConstExpressionError.{ConstExpressionError}
use Rattle.typing_errors.specs.declared.const_expressions.ConstExpressionError.TheVariants as constant
use Rattle.ir_items.specs.judged.Plain.{PlainModule}
use Rattle.judgement.specs.declared.finding.Finding.{Finding}
use Rattle.judgement.specs.declared.finding.Finding.TheVariants.{RefusedHandles, Refused}
use Rattle.typing_infos.specs.declared.info.ModuleInfo.{ModuleInfo}
use Rattle.function_modules.specs.ModuleSteps.{IsExpressionRefused, IsModuleFault, ModuleError}
use Rattle.function_modules.specs.ModuleSteps.error as error
use Rattle.shader_check.proofs.Failing.{Family, up_to_overrides, at_variables, at_functions, at_entries, IsFailing, in_order, none_failing, failing_once}
use Rattle.shader_check.proofs.Once.{step_back}
use Rattle.shader_check.specs.found.Examined.{refused_by}
use Rattle.shader_check.specs.found.Fresh.{AreAlike, AnswersAreAlike}
use Rattle.function_modules.specs.Validated.{IsValidated, IsValidationFault}
use Rattle.function_modules.specs.FunctionErrors.{ValidationError}
use Rattle.function_modules.specs.FunctionErrors.error as validation
use Rattle.spec_expressions.specs.judged.ModuleHandles.{HandlesOK}
use Rattle.judgement.specs.judged.ModuleSteps as step
use Rattle.judgement.specs.judged.ModuleSteps.{ModuleStep, IsFirstFailing}

-- the step and the item of an error; no item for an error of handles
pub record Spot : Type 0 where
  pub family : Family
  pub item : ℕ

abbrev expression_step : ConstExpressionError → ModuleStep
expression_step constant.NonConstOrOverride = step.expression
expression_step constant.NonFullyEvaluatedConst = step.expression
expression_step (constant.Compose e) = step.expression
expression_step (constant.Literal e) = step.expression
expression_step (constant.Typing e) = step.typing
expression_step constant.Other = step.expression

abbrev early_spot : ModuleError → Option Spot
early_spot (error.InvalidHandle e) = None
early_spot (error.Layouter e) = Some (record { family = up_to_overrides step.layout; item = e.ty })
early_spot (error.Typing e) = Some (record { family = up_to_overrides step.type; item = e.ty })
early_spot (error.ConstExpression e) = Some (record { family = up_to_overrides (expression_step e.error); item = e.expression })
early_spot (error.Constant e) = Some (record { family = up_to_overrides step.constant; item = e.constant })
early_spot (error.Override e) = Some (record { family = up_to_overrides step.override; item = e.id })

abbrev spot : ValidationError → Option Spot
spot (validation.Module e) = early_spot e
spot (validation.GlobalVariable e) = Some (record { family = at_variables; item = e.global })
spot (validation.Function e) = Some (record { family = at_functions; item = e.function })
spot (validation.EntryPoint e) = Some (record { family = at_entries; item = e.index })

abbrev finding_at : Option Spot → Finding
finding_at None = RefusedHandles
finding_at (Some p) = Refused (step_back p.family) p.item

expression_found : (e : ConstExpressionError) (h : ℕ) → Refused (step_back (up_to_overrides (expression_step e))) h ≡ refused_by (validation.Module (error.ConstExpression (record { expression = h; error = e })))
expression_found constant.NonConstOrOverride h = refl
expression_found constant.NonFullyEvaluatedConst h = refl
expression_found (constant.Compose e) h = refl
expression_found (constant.Literal e) h = refl
expression_found (constant.Typing e) h = refl
expression_found constant.Other h = refl

early_found : (e : ModuleError) → finding_at (early_spot e) ≡ refused_by (validation.Module e)
early_found (error.InvalidHandle e) = refl
early_found (error.Layouter e) = refl
early_found (error.Typing e) = refl
early_found (error.ConstExpression e) = expression_found e.error e.expression
early_found (error.Constant e) = refl
early_found (error.Override e) = refl

found : (e : ValidationError) → finding_at (spot e) ≡ refused_by e
found (validation.Module e) = early_found e
found (validation.GlobalVariable e) = refl
found (validation.Function e) = refl
found (validation.EntryPoint e) = refl

module _ (resolved : Bool) (s : Settings) (m : PlainModule) where
  abbrev Fails : Family → ℕ → Type 0
  Fails = IsFailing s resolved m

  abbrev FailsAt : Option Spot → Type 0
  FailsAt None = ¬ HandlesOK m
  FailsAt (Some p) = Fails p.family p.item

  expression_fails : (h : ℕ) (e : ConstExpressionError) → IsExpressionRefused s resolved m h e → IsFirstFailing s resolved m (expression_step e) h
  expression_fails h constant.NonConstOrOverride (inl x) = absurd x.1
  expression_fails h constant.NonConstOrOverride (inr x) = x.0
  expression_fails h constant.NonFullyEvaluatedConst (inl x) = absurd x.1
  expression_fails h constant.NonFullyEvaluatedConst (inr x) = x.0
  expression_fails h (constant.Compose e) (inl x) = absurd x.1
  expression_fails h (constant.Compose e) (inr x) = x.0
  expression_fails h (constant.Literal e) (inl x) = absurd x.1
  expression_fails h (constant.Literal e) (inr x) = x.0
  expression_fails h (constant.Typing e) (inl x) = x.0
  expression_fails h (constant.Typing e) (inr x) = absurd x.1
  expression_fails h constant.Other (inl x) = absurd x.1
  expression_fails h constant.Other (inr x) = absurd x.1

  early_fails : (e : ModuleError) → IsModuleFault s resolved m e → FailsAt (early_spot e)
  early_fails (error.InvalidHandle e) x = x.1
  early_fails (error.Layouter e) x = x.0
  early_fails (error.Typing e) x = x.0
  early_fails (error.ConstExpression e) x = expression_fails e.expression e.error x
  early_fails (error.Constant e) x = x.0
  early_fails (error.Override e) x = x.0

  fails : (e : ValidationError) → IsValidationFault s resolved m e → FailsAt (spot e)
  fails (validation.Module e) x = early_fails e x
  fails (validation.GlobalVariable e) x = (x.0, x.1.first)
  fails (validation.Function e) x = (x.0, x.1, x.2.first)
  fails (validation.EntryPoint e) x = (x.0, x.1, x.2, x.3.first)

  spot_once : (o p : Option Spot) → FailsAt o → FailsAt p → finding_at o ≡ finding_at p
  spot_once None None x y = refl
  spot_once None (Some p) x y = absurd (x (in_order s resolved m p.family p.item y))
  spot_once (Some o) None x y = absurd (y (in_order s resolved m o.family o.item x))
  spot_once (Some o) (Some p) x y =
      let e = failing_once s resolved m o.family p.family o.item p.item x y in
      ap (λ f. Refused (step_back f) o.item) e.0 ∙ ap (Refused (step_back p.family)) e.1

  no_fault : (o : Option Spot) (info : ModuleInfo) → IsValidated s resolved m info → FailsAt o → ⊥
  no_fault None info ok x = x ok.ok.handles
  no_fault (Some p) info ok x = none_failing s resolved m p.family p.item ok.ok ok.globals ok.functions.accepted ok.entries.accepted x

  are_alike : AreAlike resolved s m
  are_alike = record {
    one_verdict = λ info e ok fault. no_fault (spot e) info ok (fails e fault);
    one_item = λ d e x y. sym (found d) ∙ spot_once (spot d) (spot e) (fails d x) (fails e y) ∙ found e;
  }

pub answers_are_alike : (resolved : Bool) → AnswersAreAlike resolved
answers_are_alike resolved s m = are_alike resolved s m
