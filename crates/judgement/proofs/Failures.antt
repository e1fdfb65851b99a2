-- Which step fails first.
use Rattle.std.proofs.Common.{◌≡◌, ◌<◌, ◌⊎◌, inl, inr, ℕ, Bool, zero, suc, sym, ap, subst, refl, ◌∙◌, arith, rules}
use Rattle.ir_items.specs.judged.Plain.{PlainModule}
use Rattle.judgement.specs.found.ModuleLaws.{OneFailure, NoneFails}
use Rattle.ir_flags.specs.declared.settings.Settings.{Settings}
use Rattle.judgement.specs.judged.ModuleSteps.{ModuleStep, layout, type, typing, expression, constant, override, step_rank, StepOK, IsFirstFailing}

-- the step at a rank
ranked : ℕ → ModuleStep
ranked zero = layout
ranked (suc zero) = type
ranked (suc (suc zero)) = typing
ranked (suc (suc (suc zero))) = expression
ranked (suc (suc (suc (suc zero)))) = constant
ranked (suc (suc (suc (suc (suc n))))) = override

ranked_is : (step : ModuleStep) → ranked (step_rank step) ≡ step
unfolding ranked
ranked_is layout = refl
ranked_is type = refl
ranked_is typing = refl
ranked_is expression = refl
ranked_is constant = refl
ranked_is override = refl

pub same_rank : (a b : ModuleStep) → step_rank a ≡ step_rank b → a ≡ b
same_rank a b e = sym (ranked_is a) ∙ ap ranked e ∙ ranked_is b

compared : (a b : ℕ) → (a < b) ⊎ ((b < a) ⊎ (a ≡ b))
compared a b = search rules

not_before : (s : Settings) (resolved : Bool) (m : PlainModule) (step other : ModuleStep) (index place : ℕ) → IsFirstFailing s resolved m step index → IsFirstFailing s resolved m other place → step_rank step < step_rank other → ⊥
not_before s resolved m step other index place a b lt = a.item.fails ((b.reached.earlier step lt).each index a.item.within)

not_below : (s : Settings) (resolved : Bool) (m : PlainModule) (step other : ModuleStep) (index place : ℕ) → IsFirstFailing s resolved m step index → IsFirstFailing s resolved m other place → step ≡ other → index < place → ⊥
not_below s resolved m step other index place a b same lt = a.item.fails (subst (λ t. StepOK s resolved m t index) (sym same) (b.item.before index lt))

one_step : (s : Settings) (resolved : Bool) (m : PlainModule) (step other : ModuleStep) (index place : ℕ) → IsFirstFailing s resolved m step index → IsFirstFailing s resolved m other place → step ≡ other
one_step s resolved m step other index place a b = elim (compared (step_rank step) (step_rank other)) [
  | inl less ↦ absurd (not_before s resolved m step other index place a b less)
  | inr rest ↦ elim rest [
    | inl more ↦ absurd (not_before s resolved m other step place index b a more)
    | inr same ↦ same_rank step other same
  ]
]

one_index : (s : Settings) (resolved : Bool) (m : PlainModule) (step other : ModuleStep) (index place : ℕ) → IsFirstFailing s resolved m step index → IsFirstFailing s resolved m other place → step ≡ other → index ≡ place
one_index s resolved m step other index place a b same = elim (compared index place) [
  | inl less ↦ absurd (not_below s resolved m step other index place a b same less)
  | inr rest ↦ elim rest [
    | inl more ↦ absurd (not_below s resolved m other step place index b a (sym same) more)
    | inr equal ↦ equal
  ]
]

pub one_failure : OneFailure
one_failure s resolved m step other index place a b =
    let same = one_step s resolved m step other index place a b in
    (same, one_index s resolved m step other index place a b same)

pub none_fails : NoneFails
none_fails s resolved m step index failing ok = failing.item.fails ((ok.steps step).each index failing.item.within)
