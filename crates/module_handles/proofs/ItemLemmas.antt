-- The errors of items that reference only types and global expressions.
use Rattle.std.proofs.Common.{◌≡◌, ℕ, Option, Some, None, sym, ◌∙◌, ap, subst, slice_get}
use Rattle.std.specs.Option.{MatchOption}
use Rattle.ir_items.specs.judged.GlobalPlain.{PlainConstant, PlainOverride, PlainGlobal}
use Rattle.ir_items.specs.found.GlobalView.{values_of, constant_view, override_view, global_view}
use Rattle.ir_items.specs.judged.Plain.{PlainModule}
use Rattle.ir_items.specs.found.View.{module_view}
use Rattle.ir_items.specs.declared.module.Module.{Module}
use Rattle.typing_references.specs.Faults.{outside_functions}
use Rattle.typing_references.specs.declared.bounds.Bounds.{Bounds}
use Rattle.typing_references.specs.declared.fault.HandleFault.{HandleFault}
use Rattle.module_handles.proofs.OutsideFaults.{special_fault, leaf_fault, constant_fault, override_fault, variable_fault}
use Rattle.module_handles.proofs.Viewed.{reported_viewed}
use Rattle.module_handles.specs.Found.{special_missing, leaf_missing, constant_missing, override_missing, variable_missing}
use Rattle.module_handles.specs.InOrder.{IsFaultIn}
use Rattle.module_handles.specs.Lists.{AllPass, SomeFails}

-- either there is none, or it is this one
found_or : {A P : Type 0} (Q : A → Type 0) (o q : Option A) → o ≡ q → (q ≡ None → P) → ((x : A) → q ≡ Some x → Q x) → MatchOption o P Q
found_or Q None q same none some = none (sym same)
found_or Q (Some x) q same none some = some x (sym same)

module _ (m : PlainModule) (b : Bounds) (same : b ≡ outside_functions m) where
  pub special_told : (o : Option HandleFault) → o ≡ special_missing b m.special → MatchOption o (special_missing (outside_functions m) m.special ≡ None) (IsFaultIn m)
  special_told o is = found_or (IsFaultIn m) o _ (is ∙ ap (λ x. special_missing x m.special) same) (λ e. e) (special_fault m)

  pub leaf_told : (o : Option HandleFault) → o ≡ leaf_missing b m.leaf → MatchOption o (leaf_missing (outside_functions m) m.leaf ≡ None) (IsFaultIn m)
  leaf_told o is = found_or (IsFaultIn m) o _ (is ∙ ap (λ x. leaf_missing x m.leaf) same) (λ e. e) (leaf_fault m)

module _ (given : Module) (b : Bounds) (same : b ≡ outside_functions (module_view given)) where
  pub constants_told : (o : Option HandleFault) → MatchOption o (AllPass (λ i x. constant_missing b (constant_view x) ≡ None) (values_of given.constants)) (SomeFails (λ i x h. constant_missing b (constant_view x) ≡ Some h) (values_of given.constants))
      → MatchOption o ((i : ℕ) (x : PlainConstant) → slice_get (module_view given).constants i ≡ Some x → constant_missing (outside_functions (module_view given)) x ≡ None) (IsFaultIn (module_view given))
  constants_told o told =
      reported_viewed constant_view (λ i x. constant_missing (outside_functions (module_view given)) x ≡ None) (λ i x h. constant_missing (outside_functions (module_view given)) x ≡ Some h)
      (IsFaultIn (module_view given)) (values_of given.constants) (constant_fault (module_view given)) o
      (subst (λ c. MatchOption o (AllPass (λ i x. constant_missing c (constant_view x) ≡ None) (values_of given.constants)) (SomeFails (λ i x h. constant_missing c (constant_view x) ≡ Some h) (values_of given.constants))) same told)

  pub overrides_told : (o : Option HandleFault) → MatchOption o (AllPass (λ i x. override_missing b (override_view x) ≡ None) (values_of given.overrides)) (SomeFails (λ i x h. override_missing b (override_view x) ≡ Some h) (values_of given.overrides))
      → MatchOption o ((i : ℕ) (x : PlainOverride) → slice_get (module_view given).overrides i ≡ Some x → override_missing (outside_functions (module_view given)) x ≡ None) (IsFaultIn (module_view given))
  overrides_told o told =
      reported_viewed override_view (λ i x. override_missing (outside_functions (module_view given)) x ≡ None) (λ i x h. override_missing (outside_functions (module_view given)) x ≡ Some h)
      (IsFaultIn (module_view given)) (values_of given.overrides) (override_fault (module_view given)) o
      (subst (λ c. MatchOption o (AllPass (λ i x. override_missing c (override_view x) ≡ None) (values_of given.overrides)) (SomeFails (λ i x h. override_missing c (override_view x) ≡ Some h) (values_of given.overrides))) same told)

  pub variables_reported : (o : Option HandleFault) → MatchOption o (AllPass (λ i x. variable_missing b (global_view x) ≡ None) (values_of given.global_variables)) (SomeFails (λ i x h. variable_missing b (global_view x) ≡ Some h) (values_of given.global_variables))
      → MatchOption o ((i : ℕ) (x : PlainGlobal) → slice_get (module_view given).globals i ≡ Some x → variable_missing (outside_functions (module_view given)) x ≡ None) (IsFaultIn (module_view given))
  variables_reported o told =
      reported_viewed global_view (λ i x. variable_missing (outside_functions (module_view given)) x ≡ None) (λ i x h. variable_missing (outside_functions (module_view given)) x ≡ Some h)
      (IsFaultIn (module_view given)) (values_of given.global_variables) (variable_fault (module_view given)) o
      (subst (λ c. MatchOption o (AllPass (λ i x. variable_missing c (global_view x) ≡ None) (values_of given.global_variables)) (SomeFails (λ i x h. variable_missing c (global_view x) ≡ Some h) (values_of given.global_variables))) same told)
