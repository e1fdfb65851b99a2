-- The guarantees for a valid module.
use Rattle.std.proofs.Common.{◌≡◌, ◌∙◌, ◌⊎◌, inl, inr, ℕ, zero, suc, Bool, true, false, true≢false, IsTrue, List, [], ◌∷◌, Some, length, slice_get, refl, sym, subst}
use Rattle.std.specs.List.{AllZip}
use Rattle.std.specs.Prelude.{slice_index_or}
use Rattle.std.proofs.lemmas.Option.{same_Some, slice_get_within}
use Rattle.ir_flags.specs.declared.settings.Settings.{Settings}
use Rattle.ir_items.specs.judged.Plain.{PlainEntry, PlainModule}
use Rattle.ir_items.specs.judged.Returned.{IsReturnedFunction, IsReturnedEntry, IsReturned}
use Rattle.judgement.specs.judged.Steps.{IsPrepared, IsFinding}
use Rattle.judgement.specs.declared.finding.Finding.TheVariants.{Accepted}
use Rattle.spec_expressions.specs.judged.Summaries.{no_use}
use Rattle.judgement.proofs.Buffers.{buffers_are_sound}
use Rattle.judgement.proofs.Named.{named_are_reported}
use Rattle.judgement.specs.judged.Lines.{is_own, is_used}
use Rattle.judgement.specs.judged.Reports.{IsEntryReport, IsReport}
use Rattle.spec_runs.specs.judged.Events.{Event, entered, executed, introduced_expression, named, sampled, used, passed, returned, fell_off, escaped}
use Rattle.spec_runs.specs.judged.Good.{DepthOK, NamedOK, SampledOK}
use Rattle.spec_runs.specs.judged.Laws.{OnEveryRun}
use Rattle.spec_runs.specs.judged.Scoping.{checked_operands}
use Rattle.judgement_laws.specs.found.Accepted.{IsAcceptedEntry, HaveReturns}
use Rattle.judgement_laws.specs.judged.Lines.{NamedIsReported, SampledIsReported}
use Rattle.judgement_laws.specs.judged.Sound.{AreChecked, EntryIsSound, AcceptedIsSound, FunctionsBoundDepth}
use Rattle.judgement_laws.proofs.Accepted.{all_weaken, runs_nest, runs_pass_types, runs_use_live, strict_runs_use_live, runs_keep_stage, runs_never_escape}
use Rattle.judgement_laws.proofs.Chains.{runs_name_reached, runs_sample_pairs}
use Rattle.judgement_laws.proofs.Falls.{runs_fall_by_breaks}
use Rattle.judgement_laws.proofs.Lines.{global_told, pair_told, entries_are_reported, buffers_are_reported}

-- an item of the second list is related to one of the first
zipped : {A B : Type 0} (R : A → B → Type 0) (xs : List A) (ys : List B) → AllZip R xs ys → (i : ℕ) (y : B) → slice_get ys i ≡ Some y → (x : A) × R x y
zipped R [] [] h i y at = absurd (cc (at))
zipped R [] (z ∷ ys) h i y at = absurd h
zipped R (x ∷ xs) [] h i y at = absurd h
zipped R (x ∷ xs) (z ∷ ys) h zero y at = (x, subst (R x) (same_Some _ _ at) h.0)
zipped R (x ∷ xs) (z ∷ ys) h (suc i) y at = zipped R xs ys h.1 i y at

returned_have : (d m : PlainModule) → IsReturned d m → HaveReturns m
returned_have d m r = record {
  functions = λ i f at. (let z = zipped IsReturnedFunction d.functions m.functions r.functions i f at in (z.0.body, z.1.body));
  entries = λ k e at. (let z = zipped IsReturnedEntry d.entries m.entries r.entries k e at in (z.0.function.body, z.1.function.body));
}

prepared_have : (returns : Bool) (d m : PlainModule) → IsPrepared returns d m → returns ≡ true → HaveReturns m
prepared_have true d m p is = returned_have d m p
prepared_have false d m p is = absurd (true≢false (sym is))

-- ---- lines list what is referenced and sampled

module _ (m : PlainModule) (number : ℕ) (e : PlainEntry) (lines : List ℕ) (r : IsEntryReport m number e lines) where
  uses_told : (g : ℕ) → NamedOK m e.function (named g) → (own : Bool) → is_own e g ≡ own → IsTrue (is_own e g) ⊎ IsTrue (is_used (slice_index_or r.uses g no_use))
  uses_told g h true is = inl is
  uses_told g h false is = inr ((named_are_reported m number e lines r g h.0 is).1 h.1)

  each_named : (x : Event) → NamedOK m e.function x → NamedIsReported lines x
  each_named (entered depth) h = tt
  each_named (executed f p) h = tt
  each_named (introduced_expression f o) h = tt
  each_named (named g) h = global_told m number e lines r g h.0 (uses_told g h (is_own e g) refl)
  each_named (sampled image sampler) h = tt
  each_named (used f live skipped o) h = tt
  each_named (passed caller callee arguments) h = tt
  each_named (returned f value) h = tt
  each_named (fell_off f last) h = tt
  each_named escaped h = tt

  each_sampled : (x : Event) → SampledOK m e.function x → SampledIsReported lines x
  each_sampled (entered depth) h = tt
  each_sampled (executed f p) h = tt
  each_sampled (introduced_expression f o) h = tt
  each_sampled (named g) h = tt
  each_sampled (sampled image sampler) h = pair_told m number e lines r image sampler ((r.are_pairs.exact image sampler).1 h)
  each_sampled (used f live skipped o) h = tt
  each_sampled (passed caller callee arguments) h = tt
  each_sampled (returned f value) h = tt
  each_sampled (fell_off f last) h = tt
  each_sampled escaped h = tt

-- ---- valid entry points and modules

pub accepted_entry : (s : Settings) (m : PlainModule) (strict : Bool) → IsFinding s m (Accepted strict) → AreChecked s → (number : ℕ) (e : PlainEntry) → slice_get m.entries number ≡ Some e → IsAcceptedEntry s m number
accepted_entry s m strict found checked number e at =
    record { handles = found.0.handles; functions = found.2; entry = found.3 number (slice_get_within m.entries number e at); blocks = checked.blocks; expressions = checked.expressions }

entry_is_sound : (returns : Bool) (s : Settings) (d m : PlainModule) (strict : Bool) → IsPrepared returns d m → IsFinding s m (Accepted strict) → AreChecked s → (report : List ℕ) → IsReport m report → (number : ℕ) (e : PlainEntry) → slice_get m.entries number ≡ Some e → EntryIsSound returns s m report number e
entry_is_sound returns s d m strict prepared found checked report is number e at =
    let a : IsAcceptedEntry s m number = accepted_entry s m strict found checked number e at in
    let same : a.entry.entry ≡ e = same_Some _ _ (sym a.entry.at ∙ at) in
    subst (EntryIsSound returns s m report number) same
    (let own = a.entry.entry in
    let t = entries_are_reported m report is number own a.entry.at in
    record {
      depth = runs_nest s m number a checked_operands;
      types = runs_pass_types s m number a checked_operands;
      live = runs_use_live s m number a;
      all_live = λ asked. (strict_runs_use_live s m number a asked.1).0;
      surely_live = λ asked. (strict_runs_use_live s m number a asked.1).1;
      told = t;
      named = λ answers n. all_weaken _ _ (each_named m number own t.lines t.are) _ (runs_name_reached s m number a checked_operands answers n);
      sampled = λ answers n. all_weaken _ _ (each_sampled m number own t.lines t.are) _ (runs_sample_pairs s m number a checked_operands answers n);
      stage = record { functions = a.entry.stages; are = a.entry.run; every = runs_keep_stage s m number a checked_operands };
      falls = λ put_in. runs_fall_by_breaks s m number a (prepared_have returns d m prepared put_in) checked_operands;
      contained = runs_never_escape s m number a checked_operands;
    })

pub accepted_is_sound : AcceptedIsSound
accepted_is_sound returns s d m strict prepared found checked report is = record {
  buffers = λ number v at buffer. record { told = buffers_are_reported m report is number v at buffer; leaves = (buffers_are_sound s false m checked.layouts found.0 found.1 number v at buffer).leaves };
  entries = λ number e at. entry_is_sound returns s d m strict prepared found checked report is number e at;
}

pub functions_bound_depth : FunctionsBoundDepth
functions_bound_depth m s strict found checked number e at =
    let a : IsAcceptedEntry s m number = accepted_entry s m strict found checked number e at in
    let same : a.entry.entry ≡ e = same_Some _ _ (sym a.entry.at ∙ at) in
    subst (λ x. OnEveryRun m x (DepthOK (length m.functions))) same (runs_nest s m number a checked_operands)
