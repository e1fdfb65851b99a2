-- Runs of global variables without a use.
use Rattle.std.proofs.Common.{◌≡◌, ◌≤◌, ◌<◌, ◌+◌, ◌-◌, ℕ, List, length, drop, sym, ap, ◌∙◌, arith, inl, inr}
use Rattle.std.specs.List.{slice_range}
use Rattle.std.specs.Prelude.{slice_index_or}
use Rattle.std.proofs.lemmas.Bool.{cases_lt}
use Rattle.std.proofs.lemmas.List.{get_or-drop, get_or-take, length-drop, length-take}
use Rattle.spec_expressions.specs.declared.global_use.GlobalUse.{GlobalUse}
use Rattle.spec_expressions.specs.judged.Summaries.{no_use}
use Rattle.typing_infos.specs.Infos.{NoneUsed}

module _ (uses : List GlobalUse) (place end : ℕ) (le : end ≤ length uses) (none : NoneUsed (slice_range uses place end) 0 (length (slice_range uses place end))) where
  read_in : (g : ℕ) → place ≤ g → g < end → slice_index_or (slice_range uses place end) (g - place) no_use ≡ slice_index_or uses g no_use
  read_in g reached lt =
      get_or-take (end - place) (drop place uses) (g - place) no_use (omega (arith, reached, lt))
      ∙ (get_or-drop place uses (g - place) no_use ∙ (let same : place + (g - place) ≡ g = omega (arith, reached) in ap (λ k. slice_index_or uses k no_use) same))

  many_in : (g : ℕ) → place ≤ g → g < end → g - place < length (slice_range uses place end)
  many_in g reached lt = omega (arith, length-take (end - place) (drop place uses), length-drop place uses, le, reached, lt)

  -- none of a part has a use, so none of that range has
  pub none_in : NoneUsed uses place end
  none_in g reached lt = sym (ap (λ (u : GlobalUse). u.0) (read_in g reached lt)) ∙ none (g - place) (omega arith) (many_in g reached lt)

pub none_on : (uses : List GlobalUse) (from place end : ℕ) → NoneUsed uses from place → NoneUsed uses place end → NoneUsed uses from end
none_on uses from place end before rest g reached lt = elim (cases_lt g place) [ inl lower ↦ before g reached lower | inr past ↦ rest g past lt ]
