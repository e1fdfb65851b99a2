-- The entry points of a module, one more of them judged.
use Rattle.std.proofs.Common.{◌≡◌, inl, inr, ℕ, Bool, ◌+◌, ◌<◌, List, [], ◌∷◌, ◌++◌, length, Option, Some, refl, sym, ap, subst, ◌∙◌, arith, slice_get}
use Rattle.std.proofs.lemmas.List.Elements.{Contains-append_left, Contains-append_right}
use Rattle.std.proofs.lemmas.Option.{same_Some, slice_get_cases}
use Rattle.std.specs.Prelude.{Contains, IfSome, None, option_to_list}
use Rattle.function_entry_checks.specs.Faults.{IsRefusedFor}
use Rattle.function_entry_checks.specs.declared.error.EntryPointError.{EntryPointError}
use Rattle.function_whole.specs.EntryFaults.{IsEntryPointFaultAt, IsRefusedAs, IsRefusedAt as IsEntryPointRefusedAt}
use Rattle.function_whole.specs.Validated.{IsEntryNoted, IsEntrySummary, IsEntryValidated}
use Rattle.function_whole.specs.FunctionInterface.{Faults, Question, question}
use Rattle.function_modules.proofs.Chained.{one_more_at, one_longer, below_or_here}
use Rattle.function_modules.proofs.EntryHeld.{entry_held_next}
use Rattle.function_modules.specs.JudgedEntries.{reading_at, Note, IsEntryAcceptedAt, IsEntryRefusedAt, conflicting, unaccepted, AreEntryNotes, AreEntrySummaries, AreEntriesJudged, IsFirstEntryRefused, IsEntryReportedAt, IsConflictReported, IsEntryRefusal}
use Rattle.function_errors.specs.declared.error.InvalidEntryPoint.{InvalidEntryPoint}
use Rattle.ir_types.specs.found.Faults.{error_of}
use Rattle.ir_types.specs.declared.refusal.Refusal.{Refusal}
use Rattle.ir_types.specs.declared.refusal.Refusal.TheVariants as refusal
use Rattle.ir_flags.specs.declared.stages.ShaderStages.{ShaderStages}
use Rattle.ir_flags.specs.declared.settings.Settings.{Settings}
use Rattle.ir_items.specs.judged.Plain.{PlainEntry, PlainModule}
use Rattle.ir_items.specs.declared.entries.MeshStageInfo.{MeshStageInfo}
use Rattle.ir_places.specs.Paths.{IsPlaced}
use Rattle.ir_places.specs.declared.trail.Trail.{Trail}
use Rattle.typing_handles.proofs.Ordered.{order_gives_conditions}
use Rattle.typing_handles.specs.Conditions.{FunctionConditions}
use Rattle.spec_expressions.proofs.SummaryLaws.{callees_known}
use Rattle.spec_expressions.specs.judged.CallChains.{HasUse}
use Rattle.spec_expressions.specs.judged.Summaries.{Summary, AreSummaries, CalleesKnown, CallsBelow}
use Rattle.spec_interface.specs.judged.EarlierPayloads.{IsPayloadBeforeEntry}
use Rattle.spec_interface.specs.judged.Entries.{EntryOK}
use Rattle.spec_interface.specs.judged.EntryNames.{IsConflict}
use Rattle.spec_statements.proofs.CallLaws.{calls_precede}
use Rattle.spec_expressions.specs.judged.ModuleHandles.{HandlesOK}
use Rattle.spec_expressions.specs.judged.ItemNames.{entry_variables}
use Rattle.spec_expressions.specs.found.Meshes.{mesh_variables}
use Rattle.spec_expressions.specs.judged.ModuleReferences.{entry, entry_variable}
use Rattle.spec_expressions.specs.judged.References.{item}
use Rattle.spec_expressions.specs.declared.target.Target.TheVariants.{GlobalVariable}
use Rattle.spec_statements.specs.judged.Functions.{Reading}

-- ---- the variables that it names beside its function

first_in : (g : ℕ) (rest : List ℕ) → Contains (g ∷ rest) g
first_in g rest = (0, omega arith, refl)

in_payload : (o : Option ℕ) (g : ℕ) (mesh : Option MeshStageInfo) → o ≡ Some g → Contains (option_to_list o ++ mesh_variables mesh) g
in_payload o g mesh is = Contains-append_left (option_to_list o) (mesh_variables mesh) g (subst (λ p. Contains (option_to_list p) g) (sym is) (first_in g []))

in_output : (o : Option ℕ) (i : MeshStageInfo) (mesh : Option MeshStageInfo) → mesh ≡ Some i → Contains (option_to_list o ++ mesh_variables mesh) i.output_variable
in_output o i mesh is =
    Contains-append_right (option_to_list o) (mesh_variables mesh) i.output_variable (subst (λ p. Contains (mesh_variables p) i.output_variable) (sym is) (first_in i.output_variable []))

payload_by : (o : Option ℕ) {P : ℕ → Type 0} → ((g : ℕ) → o ≡ Some g → P g) → IfSome o P
payload_by None h = tt
payload_by (Some g) h = h g refl

output_by : (o : Option MeshStageInfo) {P : MeshStageInfo → Type 0} → ((i : MeshStageInfo) → o ≡ Some i → P i) → IfSome o P
output_by None h = tt
output_by (Some i) h = h i refl

-- ---- one of them

module _ (m : PlainModule) (handles : HandlesOK m) (n : ℕ) (e : PlainEntry) (at : slice_get m.entries n ≡ Some e) where
  pub entry_conditions : FunctionConditions m (length m.functions) e.function
  entry_conditions = (order_gives_conditions m handles).entries n e at

  -- the summaries of all functions serve for its callees
  pub entry_known : (summaries : List Summary) → length summaries ≡ length m.functions → AreSummaries m summaries → CalleesKnown m e.function summaries
  entry_known summaries many known =
      let below : CallsBelow e.function (length m.functions) = calls_precede e.function (length m.functions) entry_conditions.callees in
      callees_known m e.function summaries known (λ callee arguments run. (let lt = below callee arguments run in omega (arith, lt, many))) below

  variable_there : (g : ℕ) → Contains (entry_variables e) g → g < length m.globals
  variable_there g c = handles.there (entry n) (item (GlobalVariable g)) (entry_variable at c)

  -- its payload and its mesh output are there
  pub payload_there : IfSome e.payload (λ g. g < length m.globals)
  payload_there = payload_by e.payload (λ g is. variable_there g (in_payload e.payload g e.mesh is))

  pub output_there : IfSome e.mesh (λ (i : MeshStageInfo). i.output_variable < length m.globals)
  output_there = output_by e.mesh (λ i is. variable_there i.output_variable (in_output e.payload i e.mesh is))

  module _ (reading : Question → Reading) (faults : Question → Faults) (s : Settings) (summaries : List Summary) (stages : List ShaderStages) (kept : List Summary) (notes : List Note) (held : Option ℕ)
      (judged : AreEntriesJudged reading s m summaries stages n kept notes held) where
    -- ---- accepted

    module _ (apart : ¬ IsConflict m n e) (t : Summary) (own : ShaderStages) (blending : Bool) (after : Option ℕ)
        (v : IsEntryValidated (reading_at reading m summaries stages e) stages s held m e t own blending after) where
      accepted_here : IsEntryAcceptedAt reading s m summaries stages n
      accepted_here = record { entry = e; at = at; held = held; before = judged.payloads; apart = apart; ok = v.ok }

      summaries_more : AreEntrySummaries m (kept ++ t ∷ [])
      summaries_more i f u found summary = elim (one_more_at kept t i u summary) [
        | inl before ↦ judged.known i f u found before
        | inr last ↦
            (let here : i ≡ n = last.0 ∙ judged.many in
            let same : e ≡ f = same_Some _ _ (sym at ∙ (ap (slice_get m.entries) (sym here) ∙ found)) in
            subst (IsEntrySummary m f) last.1 (subst (λ (g : PlainEntry). IsEntrySummary m g t) same v.summary))
      ]

      -- whatever payloads are kept
      noted_here : IsEntryNoted (reading_at reading m summaries stages e) stages s m e own blending
      noted_here = record {
        run = λ stage. (
          (λ h. (let r = (v.noted.run stage).0 h in (r.0, record { statements = r.1.statements; expressions = r.1.expressions }))),
          (λ r. (v.noted.run stage).1 (r.0, record { statements = r.1.statements; expressions = r.1.expressions })),
        );
        blended = v.noted.blended;
      }

      notes_more : AreEntryNotes (reading_at reading m summaries stages) s m stages (notes ++ (own, blending) ∷ [])
      notes_more i f u found noted = elim (one_more_at notes (own, blending) i u noted) [
        | inl before ↦ judged.noted i f u found before
        | inr last ↦
            (let here : i ≡ n = last.0 ∙ judged.counted in
            let same : e ≡ f = same_Some _ _ (sym at ∙ (ap (slice_get m.entries) (sym here) ∙ found)) in
            subst (λ (w : Note). IsEntryNoted (reading_at reading m summaries stages f) stages s m f w.0 w.1) last.1
            (subst (λ (g : PlainEntry). IsEntryNoted (reading_at reading m summaries stages g) stages s m g own blending) same noted_here))
      ]

      pub judged_more : AreEntriesJudged reading s m summaries stages (n + 1) (kept ++ t ∷ []) (notes ++ (own, blending) ∷ []) after
      judged_more = record {
        accepted = λ i lt. elim (below_or_here i n lt) [
          | inl before ↦ judged.accepted i before
          | inr same ↦ subst (IsEntryAcceptedAt reading s m summaries stages) (sym same) accepted_here
        ];
        many = one_longer kept t n judged.many;
        known = summaries_more;
        counted = one_longer notes (own, blending) n judged.counted;
        noted = notes_more;
        payloads = subst (λ k. IsPayloadBeforeEntry s.flags m k after) (omega arith) (entry_held_next s.flags m n e at held after judged.payloads (λ asked. (v.ok.function.body asked).payloads) v.after);
      }

    -- ---- refused

    refused_here : (x : InvalidEntryPoint) → x.index ≡ n → ¬ EntryOK (reading_at reading m summaries stages e) stages (HasUse m e.function) s held m e
        → IsPlaced x.trail (λ p. IsEntryPointFaultAt (reading_at reading m summaries stages e) (faults (question m e.function summaries stages)) stages (HasUse m e.function) s held m e p x.error)
        → IsFirstEntryRefused reading faults s m summaries stages x
    refused_here x same refused placed = record {
      before = λ i lt. judged.accepted i (omega (arith, lt, same));
      here = subst (λ k. IsEntryRefusedAt reading faults s m summaries stages k x.trail x.error) (sym same) (record { entry = e; at = at; held = held; before = judged.payloads; wrong = unaccepted refused placed });
    }

    pub reported_entry : (t : Trail) (o : Refusal EntryPointError) (r : Refusal InvalidEntryPoint) → IsEntryReportedAt n t o r
        → IsRefusedFor (IsRefusedAs (reading_at reading m summaries stages e) (faults (question m e.function summaries stages)) stages (HasUse m e.function) s held m e) o
        → IsEntryPointRefusedAt t (IsEntryPointFaultAt (reading_at reading m summaries stages e) (faults (question m e.function summaries stages)) stages (HasUse m e.function) s held m e) o
        → IsEntryRefusal reading faults s m summaries stages r
    reported_entry t (refusal.Memory d) (refusal.Memory x) told refused placed = tt
    reported_entry t (refusal.Memory d) (refusal.Fault x) told refused placed = absurd told
    reported_entry t (refusal.Fault d) (refusal.Memory x) told refused placed = absurd told
    reported_entry t (refusal.Fault d) (refusal.Fault x) told refused placed = (
      refused_here (error_of x) told.0 refused.0.refused
          (subst (λ u. IsPlaced u (λ p. IsEntryPointFaultAt (reading_at reading m summaries stages e) (faults (question m e.function summaries stages)) stages (HasUse m e.function) s held m e p (error_of x).error)) (sym told.2)
          (subst (λ y. IsPlaced t (λ p. IsEntryPointFaultAt (reading_at reading m summaries stages e) (faults (question m e.function summaries stages)) stages (HasUse m e.function) s held m e p y)) (sym told.1) placed)),
      told.3,
    )

    -- an earlier one has its name
    pub told_conflict : (r : Refusal InvalidEntryPoint) → IsConflictReported n ((f : PlainEntry) → slice_get m.entries n ≡ Some f → IsConflict m n f) r → IsEntryRefusal reading faults s m summaries stages r
    told_conflict (refusal.Memory d) told = tt
    told_conflict (refusal.Fault x) told =
        let same : (error_of x).index ≡ n = told.1 in (
          record {
            before = λ i lt. judged.accepted i (omega (arith, lt, same));
            here = subst (λ k. IsEntryRefusedAt reading faults s m summaries stages k (error_of x).trail (error_of x).error) (sym same) (subst (IsEntryRefusedAt reading faults s m summaries stages n (error_of x).trail) (sym told.2)
                (record { entry = e; at = at; held = held; before = judged.payloads; wrong = conflicting (told.0 e at) }));
          },
          told.3,
        )

-- none is judged at first
pub none_judged : (reading : Question → Reading) (s : Settings) (m : PlainModule) (summaries : List Summary) (stages : List ShaderStages) (held : Option ℕ) → IsPayloadBeforeEntry s.flags m 0 held
    → AreEntriesJudged reading s m summaries stages 0 [] [] held
none_judged reading s m summaries stages held before = record {
  accepted = λ i lt. absurd (omega (arith, lt));
  many = refl;
  known = λ i e t at there. absurd (let h = there in cc);
  counted = refl;
  noted = λ i e n at there. absurd (let h = there in cc);
  payloads = before;
}

-- an item at an index below the length
pub some_item : {X : Type 0} (xs : List X) (n : ℕ) → n < length xs → (x : X) × (slice_get xs n ≡ Some x)
some_item xs n lt = elim (slice_get_cases xs n).1 [
  | inl found ↦ (found.0, found.2)
  | inr past ↦ absurd (let ge = past.0 in omega (arith, lt, ge))
]
