-- The order of the steps.
use Rattle.std.proofs.Common.{◌≡◌, ◌<◌, ◌⊎◌, inl, inr, ℕ, Bool, zero, suc, sym, subst, arith, rules}
use Rattle.ir_flags.specs.Sets.{Has}
use Rattle.ir_flags.specs.declared.settings.TheConstants.ValidationFlags.{CONSTANTS}
use Rattle.ir_items.specs.judged.Plain.{PlainModule}
use Rattle.spec_expressions.specs.judged.ModuleHandles.{HandlesOK}
use Rattle.judgement.proofs.Failures.{same_rank}
use Rattle.ir_flags.specs.declared.settings.Settings.{Settings}
use Rattle.judgement.specs.judged.ModuleSteps.{ModuleStep, layout, type, typing, expression, constant, override, step_rank, StepPasses, IsReached, ModuleOK}

below_or_same : (a b : ℕ) → a < suc b → (a < b) ⊎ (a ≡ b)
below_or_same a b lt = search rules

-- if the handles are valid, the first step is reached
pub reach_first : (s : Settings) (resolved : Bool) (m : PlainModule) → HandlesOK m → IsReached s resolved m layout
reach_first s resolved m ok = record { handles = ok; earlier = λ other lt. absurd (omega (arith, lt)) }

-- if each item passes a step, the next one is reached
pub reach : (s : Settings) (resolved : Bool) (m : PlainModule) (step next : ModuleStep) → step_rank next ≡ suc (step_rank step) → IsReached s resolved m step → StepPasses s resolved m step → IsReached s resolved m next
reach s resolved m step next follows reached passes = record {
  handles = reached.handles;
  earlier = λ other lt.
      elim (below_or_same (step_rank other) (step_rank step) (omega (arith, lt, follows))) [
        | inl less ↦ reached.earlier other less
        | inr same ↦ subst (λ t. StepPasses s resolved m t) (sym (same_rank other step same)) passes
      ];
}

passed : (s : Settings) (resolved : Bool) (m : PlainModule) → IsReached s resolved m override → StepPasses s resolved m override → (step : ModuleStep) → StepPasses s resolved m step
passed s resolved m reached last layout = reached.earlier layout (omega arith)
passed s resolved m reached last type = reached.earlier type (omega arith)
passed s resolved m reached last typing = reached.earlier typing (omega arith)
passed s resolved m reached last expression = reached.earlier expression (omega arith)
passed s resolved m reached last constant = reached.earlier constant (omega arith)
passed s resolved m reached last override = last

-- if each item passes the last step, the module is valid
pub all_passed : (s : Settings) (resolved : Bool) (m : PlainModule) → IsReached s resolved m override → StepPasses s resolved m override → ModuleOK s resolved m
all_passed s resolved m reached last = record { handles = reached.handles; steps = passed s resolved m reached last }

unasked : (s : Settings) (resolved : Bool) (m : PlainModule) → IsReached s resolved m expression → (Has s.flags.0 CONSTANTS.0 → ⊥) → (step : ModuleStep) → StepPasses s resolved m step
unasked s resolved m reached unwanted layout = reached.earlier layout (omega arith)
unasked s resolved m reached unwanted type = reached.earlier type (omega arith)
unasked s resolved m reached unwanted typing = reached.earlier typing (omega arith)
unasked s resolved m reached unwanted expression = record { each = λ index within has. absurd (unwanted has) }
unasked s resolved m reached unwanted constant = record { each = λ index within has. absurd (unwanted has) }
unasked s resolved m reached unwanted override = record { each = λ index within has. absurd (unwanted has) }

-- if values are not checked, it is valid as soon as the types of its global expressions are inferred
pub nothing_asked : (s : Settings) (resolved : Bool) (m : PlainModule) → IsReached s resolved m expression → (Has s.flags.0 CONSTANTS.0 → ⊥) → ModuleOK s resolved m
nothing_asked s resolved m reached unwanted = record { handles = reached.handles; steps = unasked s resolved m reached unwanted }
