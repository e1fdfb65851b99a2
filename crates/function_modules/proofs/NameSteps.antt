-- The names of the first so many entry points, with one more.
use Rattle.std.proofs.Common.{◌≡◌, ◌⊎◌, ◌↔◌, inl, inr, ℕ, ◌+◌, List, Some, sym, ap, subst, ◌∙◌, arith, slice_get}
use Rattle.std.proofs.lemmas.Option.{same_Some}
use Rattle.function_whole.specs.EntryNames.{AreNamesBelow, IsNamedBelow, IsSeen}
use Rattle.function_whole.specs.declared.entry_names.SeenNames.{SeenNames}
use Rattle.function_modules.proofs.Chained.{below_or_here}
use Rattle.ir_items.specs.judged.Plain.{PlainEntry, PlainModule}
use Rattle.ir_kinds.specs.declared.stages.ShaderStage.{ShaderStage}
use Rattle.spec_interface.specs.judged.EntryNames.{IsConflict}

module _ (m : PlainModule) (n : ℕ) (old : SeenNames) (below : AreNamesBelow m n old) (e : PlainEntry) (at : slice_get m.entries n ≡ Some e) where
  same_entry : (f : PlainEntry) → slice_get m.entries n ≡ Some f → e ≡ f
  same_entry f there = same_Some _ _ (sym at ∙ there)

  pub conflict : IsSeen old e.stage e.name → (f : PlainEntry) → slice_get m.entries n ≡ Some f → IsConflict m n f
  conflict seen f there =
      let w = below.seen e.stage e.name seen in
      subst (λ (g : PlainEntry). IsConflict m n g) (same_entry f there) (record { earlier = w.index; other = w.entry; before = w.before; at = w.at; stage = w.stage_is; name = w.name_is })

  pub apart : ¬ IsSeen old e.stage e.name → (f : PlainEntry) → slice_get m.entries n ≡ Some f → ¬ IsConflict m n f
  apart fresh f there c =
      let own = subst (λ (g : PlainEntry). IsConflict m n g) (sym (same_entry f there)) c in
      fresh (below.noted e.stage e.name (record { index = own.earlier; entry = own.other; before = own.before; at = own.at; stage_is = own.stage; name_is = own.name }))

  later : (stage : ShaderStage) (name : List ℕ) → IsNamedBelow m n stage name → IsNamedBelow m (n + 1) stage name
  later stage name w = record { index = w.index; entry = w.entry; before = (let lt = w.before in omega (arith, lt)); at = w.at; stage_is = w.stage_is; name_is = w.name_is }

  here_or_before : (stage : ShaderStage) (name : List ℕ) → IsNamedBelow m (n + 1) stage name → IsNamedBelow m n stage name ⊎ ((e.stage ≡ stage) × (e.name ≡ name))
  here_or_before stage name w = elim (below_or_here w.index n w.before) [
    | inl lt ↦ inl (record { index = w.index; entry = w.entry; before = lt; at = w.at; stage_is = w.stage_is; name_is = w.name_is })
    | inr same ↦
        (let it : e ≡ w.entry = same_entry w.entry (ap (slice_get m.entries) (sym same) ∙ w.at) in
        inr (ap (λ (g : PlainEntry). g.stage) it ∙ w.stage_is, ap (λ (g : PlainEntry). g.name) it ∙ w.name_is))
  ]

  pub names_more : (new : SeenNames) → ((stage : ShaderStage) (name : List ℕ) → IsSeen new stage name ↔ (IsSeen old stage name ⊎ ((e.stage ≡ stage) × (e.name ≡ name)))) → AreNamesBelow m (n + 1) new
  names_more new told = record {
    seen = λ stage name s. elim ((told stage name).0 s) [
      | inl before ↦ later stage name (below.seen stage name before)
      | inr own ↦ record { index = n; entry = e; before = omega arith; at = at; stage_is = own.0; name_is = own.1 }
    ];
    noted = λ stage name w. (told stage name).1 (elim (here_or_before stage name w) [
      | inl before ↦ inl (below.noted stage name before)
      | inr own ↦ inr own
    ]);
  }

pub no_names : (m : PlainModule) (names : SeenNames) → ((stage : ShaderStage) (name : List ℕ) → ¬ IsSeen names stage name) → AreNamesBelow m 0 names
no_names m names none = record {
  seen = λ stage name s. absurd (none stage name s);
  noted = λ stage name w. absurd (let lt = w.before in omega (arith, lt));
}
