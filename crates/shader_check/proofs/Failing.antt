-- The first failing step is unique, and so is the item.
use Rattle.std.proofs.Common.{◌≡◌, inl, inr, ℕ, Bool, ◌<◌, length, refl, ap, arith}
use Rattle.std.proofs.lemmas.Bool.{cases_lt}
use Rattle.ir_flags.specs.declared.settings.Settings.{Settings}
use Rattle.ir_items.specs.judged.Plain.{PlainModule}
use Rattle.spec_interface.specs.judged.Modules.{EntryAtOK, EntriesOK}
use Rattle.spec_statements.specs.judged.ModuleFunctions.{FunctionAtOK, FunctionsOK}
use Rattle.spec_interface.specs.judged.Globals.{GlobalOK, GlobalsOK}
use Rattle.spec_expressions.specs.judged.ModuleHandles.{HandlesOK}
use Rattle.judgement.proofs.Failures.{one_failure, none_fails}
use Rattle.judgement.specs.judged.ModuleSteps.{ModuleStep, IsFirstFailing, ModuleOK}
use Rattle.spec_expressions.specs.judged.Firsts.{FailsFirst}

-- the first index without a property is unique
first_once : (OK : ℕ → Type 0) (i j : ℕ) → ((k : ℕ) → k < i → OK k) → ¬ OK i → ((k : ℕ) → k < j → OK k) → ¬ OK j → i ≡ j
first_once OK i j before fails before' fails' =
    elim (cases_lt i j) [
      | inl lt ↦ absurd (fails (before' i lt))
      | inr le ↦ elim (cases_lt j i) [
        | inl lt ↦ absurd (fails' (before j lt))
        | inr ge ↦ omega arith
      ]
    ]

-- ---- the failing steps: those up to overrides, and those after

pub data Family : Type 0 where
  up_to_overrides : ModuleStep → Family
  at_variables : Family
  at_functions : Family
  at_entries : Family

module _ (s : Settings) (resolved : Bool) (m : PlainModule) where
  abbrev pub IsFailing : Family → ℕ → Type 0
  IsFailing (up_to_overrides step) i = IsFirstFailing s resolved m step i
  IsFailing at_variables i = ModuleOK s resolved m × FailsFirst (length m.globals) (GlobalOK s.flags s.capabilities m) i
  IsFailing at_functions i = ModuleOK s resolved m × GlobalsOK s.flags s.capabilities m × FailsFirst (length m.functions) (FunctionAtOK s m) i
  IsFailing at_entries i = ModuleOK s resolved m × GlobalsOK s.flags s.capabilities m × FunctionsOK s m × FailsFirst (length m.entries) (EntryAtOK s m) i

  pub in_order : (o : Family) (i : ℕ) → IsFailing o i → HandlesOK m
  in_order (up_to_overrides step) i x = x.reached.handles
  in_order at_variables i x = x.0.handles
  in_order at_functions i x = x.0.handles
  in_order at_entries i x = x.0.handles

  -- no global variable fails if all are valid
  no_variable : (i : ℕ) → GlobalsOK s.flags s.capabilities m → FailsFirst (length m.globals) (GlobalOK s.flags s.capabilities m) i → ⊥
  no_variable i all first = first.fails (all i first.within)

  no_function : (i : ℕ) → FunctionsOK s m → FailsFirst (length m.functions) (FunctionAtOK s m) i → ⊥
  no_function i all first = first.fails (all i first.within)

  no_entry : (i : ℕ) → EntriesOK s m → FailsFirst (length m.entries) (EntryAtOK s m) i → ⊥
  no_entry i all first = first.fails (all i first.within)

  -- if all steps pass, none fails
  pub none_failing : (o : Family) (i : ℕ) → ModuleOK s resolved m → GlobalsOK s.flags s.capabilities m → FunctionsOK s m → EntriesOK s m → IsFailing o i → ⊥
  none_failing (up_to_overrides step) i items variables functions entries y = none_fails s resolved m step i y items
  none_failing at_variables i items variables functions entries y = no_variable i variables y.1
  none_failing at_functions i items variables functions entries y = no_function i functions y.2
  none_failing at_entries i items variables functions entries y = no_entry i entries y.3

  variable_once : (i j : ℕ) → FailsFirst (length m.globals) (GlobalOK s.flags s.capabilities m) i → FailsFirst (length m.globals) (GlobalOK s.flags s.capabilities m) j → i ≡ j
  variable_once i j f g = first_once (GlobalOK s.flags s.capabilities m) i j f.before f.fails g.before g.fails

  function_once : (i j : ℕ) → FailsFirst (length m.functions) (FunctionAtOK s m) i → FailsFirst (length m.functions) (FunctionAtOK s m) j → i ≡ j
  function_once i j f g = first_once (FunctionAtOK s m) i j f.before f.fails g.before g.fails

  entry_once : (i j : ℕ) → FailsFirst (length m.entries) (EntryAtOK s m) i → FailsFirst (length m.entries) (EntryAtOK s m) j → i ≡ j
  entry_once i j f g = first_once (EntryAtOK s m) i j f.before f.fails g.before g.fails

  pub failing_once : (o p : Family) (i j : ℕ) → IsFailing o i → IsFailing p j → (o ≡ p) × (i ≡ j)
  failing_once (up_to_overrides step) (up_to_overrides other) i j x y =
      let e = one_failure s resolved m step other i j x y in
      (ap up_to_overrides e.0, e.1)
  failing_once (up_to_overrides step) at_variables i j x y = absurd (none_fails s resolved m step i x y.0)
  failing_once (up_to_overrides step) at_functions i j x y = absurd (none_fails s resolved m step i x y.0)
  failing_once (up_to_overrides step) at_entries i j x y = absurd (none_fails s resolved m step i x y.0)
  failing_once at_variables (up_to_overrides other) i j x y = absurd (none_fails s resolved m other j y x.0)
  failing_once at_variables at_variables i j x y = (refl, variable_once i j x.1 y.1)
  failing_once at_variables at_functions i j x y = absurd (no_variable i y.1 x.1)
  failing_once at_variables at_entries i j x y = absurd (no_variable i y.1 x.1)
  failing_once at_functions (up_to_overrides other) i j x y = absurd (none_fails s resolved m other j y x.0)
  failing_once at_functions at_variables i j x y = absurd (no_variable j x.1 y.1)
  failing_once at_functions at_functions i j x y = (refl, function_once i j x.2 y.2)
  failing_once at_functions at_entries i j x y = absurd (no_function i y.2 x.2)
  failing_once at_entries (up_to_overrides other) i j x y = absurd (none_fails s resolved m other j y x.0)
  failing_once at_entries at_variables i j x y = absurd (no_variable j x.1 y.1)
  failing_once at_entries at_functions i j x y = absurd (no_function j x.2 y.2)
  failing_once at_entries at_entries i j x y = (refl, entry_once i j x.3 y.3)
