-- Some text is expected for any bytes (as a double negation).
use Rattle.std.proofs.Common.{◌↔◌, ◌⊎◌, IsTrue, nat_eq, inl, inr, ℕ, List, [], ◌++◌, Bool, true, false, length, refl, subst}
use Rattle.std.specs.Int.RustNames.{bit_and}
use Rattle.std.proofs.lemmas.Bool.{eqb-true, eq-eqb}
use Rattle.ir_flags.specs.Sets.{Has}
use Rattle.ir_flags.specs.declared.settings.ValidationFlags.{ValidationFlags}
use Rattle.ir_flags.specs.declared.settings.TheConstants.ValidationFlags.{BLOCKS, STRICT_SCOPE}
use Rattle.ir_flags.specs.declared.settings.Settings.{Settings}
use Rattle.ir_items.specs.judged.Plain.{PlainModule}
use Rattle.ir_items.specs.judged.Returned.{returned_module}
use Rattle.ir_items.proofs.Returned.{returned_by_bodies}
use Rattle.document_reader.specs.judged.Plain.{PlainDocument}
use Rattle.document_reader.specs.judged.Distinct.{AreDistinct}
use Rattle.document_reader.specs.judged.Form.{Reads}
use Rattle.document_reader.proofs.Candidates.{IsCandidate, candidate}
use Rattle.spec_expressions.specs.judged.ModuleHandles.{HandlesOK}
use Rattle.judgement.proofs.Reached.{reach_first, reach, all_passed}
use Rattle.judgement.specs.judged.ModuleSteps.{ModuleStep, layout, type, typing, expression, constant, override, item_count, StepOK, StepPasses, IsReached, IsFirstFailing, ModuleOK}
use Rattle.judgement.specs.judged.Steps.{IsFinding, IsPrepared, IsScopeStrict}
use Rattle.judgement.specs.judged.Text.{text_of}
use Rattle.judgement.specs.declared.finding.Step.TheVariants.{Layout, «Type», Typing, Expression, Constant, Override, Global, Function, Entry}
use Rattle.judgement.specs.declared.finding.Finding.{Finding}
use Rattle.judgement.specs.declared.finding.Finding.TheVariants.{Accepted, RefusedDocument, RefusedHandles, Refused}
use Rattle.shader_check.specs.found.Judgements.{Judged, IsReported}
use Rattle.shader_check.specs.judged.Theorem.{SomeText}
use Rattle.spec_interface.specs.judged.Modules.{EntryAtOK, EntriesOK}
use Rattle.spec_statements.specs.judged.ModuleFunctions.{FunctionAtOK, FunctionsOK}
use Rattle.spec_interface.specs.judged.Globals.{GlobalOK, GlobalsOK}
use Rattle.judgement.proofs.SomeReport.{some_report_for}
use Rattle.judgement.specs.judged.Reports.{IsReport}
use Rattle.judgement.proofs.Classical.{Holds, surely, then, either, Sought, all_or_first}
use Rattle.shader_check.proofs.Expected.{expected}
use Rattle.shader_check.proofs.JudgedLaws.{found_in, judged}

-- ---- for a module

-- whether a set has some flags is decidable
has_told : (set flags : ℕ) → (b : Bool) × (IsTrue b ↔ Has set flags)
has_told set flags = (nat_eq (bit_and set flags) flags, (λ h. eqb-true (bit_and set flags) flags h, λ h. eq-eqb (bit_and set flags) flags h))

both_told : (a b : Bool) (P Q : Type 0) → IsTrue a ↔ P → IsTrue b ↔ Q → (c : Bool) × (IsTrue c ↔ (P × Q))
both_told true true P Q x y = (true, (λ h. (x.0 refl, y.0 refl), λ h. refl))
both_told true false P Q x y = (false, (λ h. absurd (cc (h)), λ h. y.1 h.1))
both_told false b P Q x y = (false, (λ h. absurd (cc (h)), λ h. x.1 h.0))

strict_told : (flags : ValidationFlags) → (b : Bool) × (IsTrue b ↔ IsScopeStrict flags)
strict_told flags =
    let blocks = has_told flags.0 BLOCKS.0 in
    let strict = has_told flags.0 STRICT_SCOPE.0 in
    both_told blocks.0 strict.0 (Has flags.0 BLOCKS.0) (Has flags.0 STRICT_SCOPE.0) blocks.1 strict.1

abbrev SomeFinding : Settings → PlainModule → Type 0
SomeFinding s m = (f : Finding) × IsFinding s m f

module _ (s : Settings) (m : PlainModule) where
  accepted_told : ModuleOK s false m → GlobalsOK s.flags s.capabilities m → FunctionsOK s m → EntriesOK s m → SomeFinding s m
  accepted_told ok variables functions all = let strict = strict_told s.flags in (Accepted strict.0, (ok, variables, functions, all, strict.1))

  entries_told : ModuleOK s false m → GlobalsOK s.flags s.capabilities m → FunctionsOK s m → Sought (EntryAtOK s m) (length m.entries) → SomeFinding s m
  entries_told ok variables functions (inl all) = accepted_told ok variables functions all
  entries_told ok variables functions (inr found) =
      let f = found.1 in
      (Refused Entry found.0, (ok, variables, functions, record { within = f.within; before = f.before; fails = f.fails }))

  functions_reported : ModuleOK s false m → GlobalsOK s.flags s.capabilities m → Sought (FunctionAtOK s m) (length m.functions) → Holds (SomeFinding s m)
  functions_reported ok variables (inl all) =
      then (all_or_first (EntryAtOK s m) (length m.entries)) (λ o. surely (entries_told ok variables all o))
  functions_reported ok variables (inr found) =
      let f = found.1 in
      surely (Refused Function found.0, (ok, variables, record { within = f.within; before = f.before; fails = f.fails }))

  by_functions : ModuleOK s false m → GlobalsOK s.flags s.capabilities m → Holds (SomeFinding s m)
  by_functions ok variables =
      then (all_or_first (FunctionAtOK s m) (length m.functions)) (λ o. functions_reported ok variables o)

  variables_reported : ModuleOK s false m → Sought (GlobalOK s.flags s.capabilities m) (length m.globals) → Holds (SomeFinding s m)
  variables_reported ok (inl all) = by_functions ok all
  variables_reported ok (inr found) =
      let f = found.1 in
      surely (Refused Global found.0, (ok, record { within = f.within; before = f.before; fails = f.fails }))

  by_variables : ModuleOK s false m → Holds (SomeFinding s m)
  by_variables ok = then (all_or_first (GlobalOK s.flags s.capabilities m) (length m.globals)) (λ o. variables_reported ok o)

  -- each item passes the step, or one is the first that fails it
  abbrev Outcome : ModuleStep → Type 0
  Outcome k = StepPasses s false m k ⊎ ((i : ℕ) × IsFirstFailing s false m k i)

  told : (k : ModuleStep) → IsReached s false m k → Sought (StepOK s false m k) (item_count m k) → Outcome k
  told k reached (inl all) = inl (record { each = all })
  told k reached (inr found) =
      let f = found.1 in
      inr (found.0, record { reached = reached; item = record { within = f.within; before = f.before; fails = f.fails } })

  asked : (k : ModuleStep) → IsReached s false m k → Holds (Outcome k)
  asked k reached =
      then (all_or_first (StepOK s false m k) (item_count m k)) (λ o. surely (told k reached o))

  -- the step fails, which is the finding; or a later one does or none
  step_by_step : (k : ModuleStep) → IsReached s false m k → ((i : ℕ) → IsFirstFailing s false m k i → SomeFinding s m)
      → (StepPasses s false m k → Holds (SomeFinding s m)) → Holds (SomeFinding s m)
  step_by_step k reached refused passed =
      then (asked k reached) (λ o.
      elim o [
        | inl passes ↦ passed passes
        | inr found ↦ surely (refused found.0 found.1)
      ])

  on_overrides : IsReached s false m override → Holds (SomeFinding s m)
  on_overrides reached =
      step_by_step override reached (λ i f. (Refused Override i, f)) (λ passes. by_variables (all_passed s false m reached passes))

  on_constants : IsReached s false m constant → Holds (SomeFinding s m)
  on_constants reached =
      step_by_step constant reached (λ i f. (Refused Constant i, f)) (λ passes. on_overrides (reach s false m constant override refl reached passes))

  on_expressions : IsReached s false m expression → Holds (SomeFinding s m)
  on_expressions reached =
      step_by_step expression reached (λ i f. (Refused Expression i, f)) (λ passes. on_constants (reach s false m expression constant refl reached passes))

  on_typing : IsReached s false m typing → Holds (SomeFinding s m)
  on_typing reached =
      step_by_step typing reached (λ i f. (Refused Typing i, f)) (λ passes. on_expressions (reach s false m typing expression refl reached passes))

  on_types : IsReached s false m type → Holds (SomeFinding s m)
  on_types reached =
      step_by_step type reached (λ i f. (Refused «Type» i, f)) (λ passes. on_typing (reach s false m type typing refl reached passes))

  on_layouts : HandlesOK m → Holds (SomeFinding s m)
  on_layouts ok =
      let reached = reach_first s false m ok in
      step_by_step layout reached (λ i f. (Refused Layout i, f)) (λ passes. on_types (reach s false m layout type refl reached passes))

  some_finding : Holds (SomeFinding s m)
  some_finding =
      then (either (HandlesOK m)) (λ o.
      elim o [
        | inl ok ↦ on_layouts ok
        | inr out ↦ surely (RefusedHandles, out)
      ])

some_prepared : (returns : Bool) (m : PlainModule) → (n : PlainModule) × IsPrepared returns m n
some_prepared true m = (returned_module m, returned_by_bodies m)
some_prepared false m = (m, refl)

-- ---- for bytes

abbrev SomeJudged : List ℕ → Type 0
SomeJudged bytes = (f : Finding) × Judged bytes f

-- bytes that are not a document
spell_none : (bytes : List ℕ) → ((d : PlainDocument) → ¬ Reads bytes d) → SomeJudged bytes
spell_none bytes none = (RefusedDocument, none)

by_document : (bytes : List ℕ) (d : PlainDocument) → Reads bytes d → Holds (SomeJudged bytes)
by_document bytes d r =
    let prepared = some_prepared d.returns d.content in
    then (some_finding d.settings prepared.0) (λ found. surely (found.0, judged bytes d found.0 r (found_in d prepared.0 found.0 prepared.1 found.1)))

-- bytes that may be a document
by_candidate : (bytes : List ℕ) (d : PlainDocument) → IsCandidate bytes d → Holds (SomeJudged bytes)
by_candidate bytes d c =
    then (either (AreDistinct d.content.types)) (λ o.
    elim o [
      | inl distinct ↦ by_document bytes d (c.spelled distinct)
      | inr repeated ↦ surely (spell_none bytes (λ other r. repeated (subst (λ (x : PlainDocument). AreDistinct x.content.types) (c.alone other r) r.distinct)))
    ])

some_judged : (bytes : List ℕ) → Holds (SomeJudged bytes)
some_judged bytes =
    elim (candidate bytes) [
      | inl none ↦ surely (spell_none bytes none)
      | inr found ↦ by_candidate bytes found.0 found.1
    ]

-- ---- reports

abbrev SomeTold : List ℕ → Finding → Type 0
SomeTold bytes f = (behind : List ℕ) × IsReported bytes f behind

report_told : (bytes : List ℕ) (strict : Bool) (h : Judged bytes (Accepted strict)) → (text : List ℕ) × IsReport h.found.judged text → SomeTold bytes (Accepted strict)
report_told bytes strict h text = (text.0, record { document = h.document; reads = h.reads; reports = record { judged = h.found.judged; prepared = h.found.prepared; is = text.1 } })

some_told : (bytes : List ℕ) (f : Finding) → Judged bytes f → Holds (SomeTold bytes f)
some_told bytes (Accepted strict) h = then (some_report_for h.found.judged h.found.finding.0.handles) (λ text. surely (report_told bytes strict h text))
some_told bytes RefusedDocument h = surely ([], refl)
some_told bytes RefusedHandles h = surely ([], refl)
some_told bytes (Refused step index) h = surely ([], refl)

pub some_text_lem : SomeText
some_text_lem bytes =
    λ none. some_judged bytes (λ found.
    some_told bytes found.0 found.1 (λ told.
    none (text_of found.0 ++ told.0) (expected found.0 told.0 bytes found.1 told.1)))
