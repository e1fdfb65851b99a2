-- The functions of a module, one more of them judged.
use Rattle.std.proofs.Common.{◌≡◌, ◌↔◌, ◌⊎◌, inl, inr, ℕ, false, zero, suc, ◌+◌, ◌<◌, List, [], ◌∷◌, ◌++◌, length, Option, Some, None, refl, sym, ap, subst, ◌∙◌, arith, slice_get}
use Rattle.std.proofs.lemmas.Bool.{cases_eq}
use Rattle.std.proofs.lemmas.Option.{same_Some, slice_get_within}
use Rattle.typing_errors.specs.declared.error.FunctionError.{FunctionError}
use Rattle.function_whole.specs.Faults.{IsFunctionFaultAt}
use Rattle.function_whole.specs.FunctionInterface.{Faults, IsRefusedFor, IsRefusedAt as IsAnalysisRefusedAt, Question, question}
use Rattle.function_modules.specs.Judged.{Preceding, IsAcceptedAt, IsRefusedAt, IsNotedAt, AreNoted, AreJudged, AreJudgedWith, AreOwn, IsFirstRefused, IsReportedAt, IsRefusal}
use Rattle.function_errors.specs.declared.error.InvalidFunction.{InvalidFunction}
use Rattle.ir_types.specs.found.Faults.{error_of}
use Rattle.ir_types.specs.declared.refusal.Refusal.{Refusal}
use Rattle.ir_types.specs.declared.refusal.Refusal.TheVariants as refusal
use Rattle.ir_flags.specs.Sets.{Has}
use Rattle.ir_flags.specs.declared.stages.ShaderStages.{ShaderStages}
use Rattle.ir_flags.specs.declared.settings.Settings.{Settings}
use Rattle.ir_items.specs.judged.Plain.{PlainFunction, PlainModule}
use Rattle.ir_places.specs.Paths.{IsPlaced}
use Rattle.ir_places.specs.declared.trail.Trail.{Trail}
use Rattle.typing_handles.proofs.Ordered.{order_gives_conditions}
use Rattle.typing_handles.specs.Conditions.{FunctionConditions}
use Rattle.spec_expressions.proofs.SummaryLaws.{callees_known}
use Rattle.spec_expressions.specs.judged.Summaries.{Summary, IsSummary, CalleesKnown, AreSummaries, CallsBelow}
use Rattle.spec_statements.specs.judged.ExpressionStages.{all_stages}
use Rattle.spec_statements.proofs.CallLaws.{calls_precede}
use Rattle.spec_statements.proofs.HeldLaws.{held_at_first, held_next}
use Rattle.spec_statements.specs.judged.EarlierPayloads.{IsPayloadBefore}
use Rattle.spec_expressions.specs.judged.ModuleHandles.{HandlesOK}
use Rattle.spec_statements.specs.judged.Functions.{Reading, FunctionOK, AllowsStage}
use Rattle.spec_statements.specs.judged.Payloads.{IsPayloadAfter}

-- ---- summaries

-- an item of a list with one more is that one or one from before
pub one_more_at : {A : Type 0} (xs : List A) (y : A) (i : ℕ) (x : A) → slice_get (xs ++ y ∷ []) i ≡ Some x → (slice_get xs i ≡ Some x) ⊎ ((i ≡ length xs) × (y ≡ x))
one_more_at [] y zero x e = inr (refl, cc)
one_more_at [] y (suc i) x e = cc
one_more_at (z ∷ xs) y zero x e = inl e
one_more_at (z ∷ xs) y (suc i) x e = elim (one_more_at xs y i x e) [ inl a ↦ inl a | inr b ↦ inr (ap suc b.0, b.1) ]

more_summaries : (m : PlainModule) (n : ℕ) (f : PlainFunction) (summaries : List Summary) (t : Summary) → length summaries ≡ n → slice_get m.functions n ≡ Some f → AreSummaries m summaries → IsSummary m f t
    → AreSummaries m (summaries ++ t ∷ [])
more_summaries m n f summaries t many at known is i g s found summary = elim (one_more_at summaries t i s summary) [
  | inl before ↦ known i g s found before
  | inr last ↦
      (let same : f ≡ g = same_Some _ _ (sym at ∙ (ap (slice_get m.functions) (sym many ∙ sym last.0) ∙ found)) in
      subst (λ u. IsSummary m g u) last.1 (subst (λ h. IsSummary m h t) same is))
]

pub one_longer : {A : Type 0} (xs : List A) (t : A) (n : ℕ) → length xs ≡ n → length (xs ++ t ∷ []) ≡ n + 1
one_longer [] t n e = omega (arith, e)
one_longer (x ∷ xs) t zero e = absurd (omega (arith, e))
one_longer (x ∷ xs) t (suc n) e = let r = one_longer xs t n (omega (arith, e)) in omega (arith, r)

-- what is kept of each by itself, with one more
pub own_more : {Plain Info : Type 0} (Own : Plain → Info → Type 0) (items : List Plain) (infos : List Info) (n : ℕ) (f : Plain) (i : Info) → length infos ≡ n → slice_get items n ≡ Some f
    → AreOwn Own items infos → Own f i → AreOwn Own items (infos ++ i ∷ [])
own_more Own items infos n f i many at before own index g j found there = elim (one_more_at infos i index j there) [
  | inl earlier ↦ before index g j found earlier
  | inr last ↦
      (let same : f ≡ g = same_Some _ _ (sym at ∙ (ap (slice_get items) (sym many ∙ sym last.0) ∙ found)) in
      subst (λ u. Own g u) last.1 (subst (λ h. Own h i) same own))
]

-- what is in a list stands there still with one more after it
still_there : {A : Type 0} (xs : List A) (t : A) (i : ℕ) → i < length xs → slice_get xs i ≡ slice_get (xs ++ t ∷ []) i
still_there [] t i lt = absurd (omega (arith, lt))
still_there (x ∷ xs) t zero lt = refl
still_there (x ∷ xs) t (suc i) lt = still_there xs t i (omega (arith, lt))

-- none is judged at first
pub none_judged : {Info : Type 0} (reading : Question → Reading) (s : Settings) (m : PlainModule) (Own : PlainFunction → Info → Type 0) → AreJudgedWith reading s m Own 0 [] [] [] None
none_judged reading s m Own = record {
  judged = record {
    accepted = λ i lt. absurd (omega (arith, lt));
    many = refl;
    stages = λ i own there. absurd (let h = there in cc);
    counted = refl;
    known = λ i f t at there. absurd (let h = there in cc);
    payloads = held_at_first s.flags m;
  };
  as_many = refl;
  own = λ i f j at there. absurd (let h = there in cc);
}

-- ---- one more function

pub below_or_here : (j n : ℕ) → j < n + 1 → (j < n) ⊎ (j ≡ n)
below_or_here j n lt = elim (cases_eq j n) [ inl same ↦ inr same | inr differ ↦ inl (omega (arith, lt, differ)) ]

module _ (m : PlainModule) (handles : HandlesOK m) where
  pub conditions_at : (n : ℕ) (f : PlainFunction) → slice_get m.functions n ≡ Some f → FunctionConditions m n f
  conditions_at n f at = (order_gives_conditions m handles).functions n f at

  -- the summaries of those before serve for the callees
  pub known_at : (n : ℕ) (f : PlainFunction) (summaries : List Summary) → slice_get m.functions n ≡ Some f → length summaries ≡ n → AreSummaries m summaries → CalleesKnown m f summaries
  known_at n f summaries at many known =
      let below : CallsBelow f n = calls_precede f n (conditions_at n f at).callees in
      let within : n < length m.functions = slice_get_within m.functions n f at in
      callees_known m f summaries known (λ callee arguments run. (let lt = below callee arguments run in omega (arith, lt, many))) (λ callee arguments run. (let lt = below callee arguments run in omega (arith, lt, within)))

  module _ (reading : Question → Reading) (s : Settings) (n : ℕ) (summaries : List Summary) (stages : List ShaderStages) (held : Option ℕ) (judged : AreJudged reading s m n summaries stages held) (f : PlainFunction) (at : slice_get m.functions n ≡ Some f) where
    abbrev given_here : Preceding s.flags m n f
    given_here = record { summaries = summaries; known = known_at n f summaries at judged.many judged.known; stages = stages; held = held; before = judged.payloads }

    pub accepted_here : FunctionOK (reading (question m f summaries stages)) s false held m f → IsAcceptedAt reading s m n
    accepted_here ok = record { function = f; at = at; given = given_here; ok = ok }

    abbrev Exact : ShaderStages → Type 0
    Exact own = (stage : ℕ) → Has own.0 stage ↔ (Has all_stages.0 stage × AllowsStage (reading (question m f summaries stages)) s stages f stage)

    noted_before : (own : ShaderStages) (i : ℕ) (x : ShaderStages) → slice_get stages i ≡ Some x → IsNotedAt reading s m (stages ++ own ∷ []) i x
    noted_before own i x there =
        let e = judged.stages i x there in
        let lt = slice_get_within stages i x there in
        record { function = e.function; at = e.at; given = e.given; many = e.many; same = λ j less. e.same j less ∙ still_there stages own j (omega (arith, less, lt)); exact = e.exact }

    noted_here : (own : ShaderStages) → Exact own → (i : ℕ) → i ≡ n → IsNotedAt reading s m (stages ++ own ∷ []) i own
    noted_here own exact i here =
        let counted = judged.counted in
        subst (λ k. IsNotedAt reading s m (stages ++ own ∷ []) k own) (sym here)
        (record { function = f; at = at; given = given_here; many = counted; same = λ j less. still_there stages own j (omega (arith, less, counted)); exact = exact })

    noted_more : (own : ShaderStages) → Exact own → AreNoted reading s m (stages ++ own ∷ [])
    noted_more own exact i x there = elim (one_more_at stages own i x there) [
      | inl before ↦ noted_before own i x before
      | inr last ↦ subst (IsNotedAt reading s m (stages ++ own ∷ []) i) last.1 (noted_here own exact i (last.0 ∙ judged.counted))
    ]

    pub judged_more : (t : Summary) (own : ShaderStages) (after : Option ℕ) → FunctionOK (reading (question m f summaries stages)) s false held m f → (CalleesKnown m f summaries → IsSummary m f t) → Exact own
        → IsPayloadAfter s.flags m f held after → AreJudged reading s m (n + 1) (summaries ++ t ∷ []) (stages ++ own ∷ []) after
    judged_more t own after ok is exact h = record {
      accepted = λ i lt. elim (below_or_here i n lt) [
        | inl before ↦ judged.accepted i before
        | inr same ↦ subst (IsAcceptedAt reading s m) (sym same) (accepted_here ok)
      ];
      many = one_longer summaries t n judged.many;
      stages = noted_more own exact;
      counted = one_longer stages own n judged.counted;
      known = more_summaries m n f summaries t judged.many at judged.known (is given_here.known);
      payloads = subst (λ k. IsPayloadBefore s.flags m k after) (omega arith) (held_next s.flags m n f at held after judged.payloads (λ asked. (ok.body asked).payloads) h);
    }

    pub refused_here : (faults : Question → Faults) (e : InvalidFunction) → e.function ≡ n → (FunctionOK (reading (question m f summaries stages)) s false held m f → ⊥)
        → IsPlaced e.trail (IsFunctionFaultAt (reading (question m f summaries stages)) (faults (question m f summaries stages)) s false held m f e.error) → IsFirstRefused reading faults s m e
    refused_here faults e same refused fault = record {
      before = λ i lt. judged.accepted i (omega (arith, lt, same));
      here = subst (λ k. IsRefusedAt reading faults s m k e.trail e.error) (sym same) (record { function = f; at = at; given = given_here; refused = refused; fault = fault });
    }

    pub reported_refusal : (faults : Question → Faults) (t : Trail) (o : Refusal FunctionError) (r : Refusal InvalidFunction) → IsReportedAt n t o r
        → IsRefusedFor (λ _. FunctionOK (reading (question m f summaries stages)) s false held m f → ⊥) o
        → IsAnalysisRefusedAt t (IsFunctionFaultAt (reading (question m f summaries stages)) (faults (question m f summaries stages)) s false held m f) o
        → IsRefusal reading faults s m r
    reported_refusal faults t (refusal.Memory d) (refusal.Memory e) told refused fault = tt
    reported_refusal faults t (refusal.Memory d) (refusal.Fault e) told refused fault = absurd told
    reported_refusal faults t (refusal.Fault d) (refusal.Memory e) told refused fault = absurd told
    reported_refusal faults t (refusal.Fault d) (refusal.Fault e) told refused fault = (
      refused_here faults (error_of e) told.0 refused.0
          (subst (λ u. IsPlaced u (IsFunctionFaultAt (reading (question m f summaries stages)) (faults (question m f summaries stages)) s false held m f (error_of e).error)) (sym told.2)
          (subst (λ x. IsPlaced t (IsFunctionFaultAt (reading (question m f summaries stages)) (faults (question m f summaries stages)) s false held m f x)) (sym told.1) fault.0)),
      told.3,
    )
