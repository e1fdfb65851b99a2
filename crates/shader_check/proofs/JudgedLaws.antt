-- The result for a document is that for its bytes.
use Rattle.std.proofs.Common.{◌≡◌, ℕ, List, [], Result, Ok, Err, IfOk, false, string_bytes, sym, subst}
use Rattle.std.specs.declared.alloc.AllocError.{AllocError}
use Rattle.document_reader.specs.judged.Plain.{PlainDocument}
use Rattle.document_reader.specs.judged.Form.{Reads}
use Rattle.ir_types.specs.declared.refusal.Refusal.{Refusal}
use Rattle.ir_types.specs.declared.refusal.Refusal.TheVariants as refusal
use Rattle.ir_flags.specs.declared.settings.Settings.{Settings}
use Rattle.ir_items.specs.judged.Plain.{PlainModule}
use Rattle.ir_items.specs.declared.module.Module.{Module}
use Rattle.judgement.specs.judged.Steps.{IsFinding, IsPrepared}
use Rattle.judgement.specs.declared.finding.Finding.{Finding}
use Rattle.judgement.specs.declared.finding.Finding.TheVariants.{Accepted, RefusedDocument, RefusedHandles, Refused}
use Rattle.function_modules.specs.ModuleSteps.{ModuleError}
use Rattle.function_modules.specs.ModuleSteps.error as module_error
use Rattle.function_modules.specs.FunctionErrors.{ValidationError, IsRefusedAt}
use Rattle.function_modules.specs.FunctionErrors.error as error
use Rattle.shader_check.proofs.Kept.{reported}
use Rattle.shader_check.proofs.ModuleLaws.{found_of}
use Rattle.shader_check.specs.found.Examined.{finding_in, refused_early, refused_by, IsExamined, IsExaminedDocument, IsKeptIn, IsRefusedSo}
use Rattle.function_modules.specs.Validated.{IsValidationFault}
use Rattle.shader_check.specs.found.Judgements.{FindsIn, Judged, IsReported, IsReportedOf, IsJudgementOf, IsJudgementOn}
use Rattle.shader_check.specs.judged.Theorem.{IsReportedIn}
use Rattle.shader_check.specs.declared.examined.Examined.{Examined}
use Rattle.shader_check.specs.declared.examined.Examined.TheVariants as examined
use Rattle.shader_check.specs.declared.reported.Judgement.{Judgement}

pub found_in : (d : PlainDocument) (m : PlainModule) (f : Finding) → IsPrepared d.returns d.content m → IsFinding d.settings m f → FindsIn d f
found_in d m f p h = record { judged = m; prepared = p; finding = h }

-- the error of a validator with these settings is the result for the module
pub examined_by : (s own : Settings) (m : PlainModule) (given : Module) (r : Refusal ValidationError) (t : Result Examined AllocError) → own ≡ s → IsRefusedAt (IsValidationFault own false m) given r → IfOk t (IsRefusedSo r) → IfOk t (IsExamined s m)
examined_by s own m given r (Err a) same wrong told = tt
examined_by s own m given (refusal.Memory e) (Ok x) same wrong told = absurd told
examined_by s own m given (refusal.Fault f) (Ok (examined.Accepted strict info)) same wrong told = absurd told
examined_by s own m given (refusal.Fault f) (Ok (examined.Refused e)) same wrong told =
    subst (λ (z : Settings). IsValidationFault z false m e) same (subst (λ (x : ValidationError). IsValidationFault own false m x) (sym told) wrong.0)

-- the result for its module, with the error, is that for the document
pub examined_if : (d : PlainDocument) (m : PlainModule) (r : Result Examined AllocError) → IsPrepared d.returns d.content m → IfOk r (IsExamined d.settings m) → IfOk r (IsExaminedDocument d m)
examined_if d m (Ok x) p h = record { prepared = p; examined = h }
examined_if d m (Err a) p h = tt

-- and without the error
pub judged_document : (d : PlainDocument) (m : PlainModule) (x : Examined) → IsExaminedDocument d m x → FindsIn d (finding_in x)
judged_document d m x h = found_in d m (finding_in x) h.prepared (found_of d.settings m x h.examined)

-- ---- reports

pub kept_in : (d : PlainDocument) (m : PlainModule) (x : Examined) → IsExaminedDocument d m x → IsKeptIn m x
kept_in d m (examined.Accepted strict info) h = reported d.settings false m info h.examined.0
kept_in d m (examined.Refused e) h = tt

early_reported : (d : PlainDocument) (m : PlainModule) (e : ModuleError) (behind : List ℕ) → IsReportedIn m (refused_early e) behind → IsReportedOf d (refused_early e) behind
early_reported d m (module_error.InvalidHandle e) behind t = t
early_reported d m (module_error.Layouter e) behind t = t
early_reported d m (module_error.Typing e) behind t = t
early_reported d m (module_error.ConstExpression e) behind t = t
early_reported d m (module_error.Constant e) behind t = t
early_reported d m (module_error.Override e) behind t = t

refused_reported : (d : PlainDocument) (m : PlainModule) (e : ValidationError) (behind : List ℕ) → IsReportedIn m (refused_by e) behind → IsReportedOf d (refused_by e) behind
refused_reported d m (error.Module e) behind t = early_reported d m e behind t
refused_reported d m (error.GlobalVariable e) behind t = t
refused_reported d m (error.Function e) behind t = t
refused_reported d m (error.EntryPoint e) behind t = t

-- the report of its module is that of the document
reported_of : (d : PlainDocument) (m : PlainModule) (x : Examined) (behind : List ℕ) → IsExaminedDocument d m x → IsReportedIn m (finding_in x) behind → IsReportedOf d (finding_in x) behind
reported_of d m (examined.Accepted strict info) behind h t = record { judged = m; prepared = h.prepared; is = t }
reported_of d m (examined.Refused e) behind h t = refused_reported d m e behind t

pub judgement_of : (d : PlainDocument) (m : PlainModule) (x : Examined) (j : Judgement) → IsExaminedDocument d m x → j.finding ≡ finding_in x → IsReportedIn m (finding_in x) (string_bytes j.report) → IsJudgementOf d j
judgement_of d m x j h is t = record {
  finding = subst (FindsIn d) (sym is) (judged_document d m x h);
  told = subst (λ f. IsReportedOf d f (string_bytes j.report)) (sym is) (reported_of d m x (string_bytes j.report) h t);
}

pub judged : (bytes : List ℕ) (d : PlainDocument) (f : Finding) → Reads bytes d → FindsIn d f → Judged bytes f
judged bytes d RefusedDocument r h = absurd h.finding
judged bytes d (Accepted strict) r h = record { document = d; reads = r; found = h }
judged bytes d RefusedHandles r h = record { document = d; reads = r; found = h }
judged bytes d (Refused step index) r h = record { document = d; reads = r; found = h }

pub judged_if : (bytes : List ℕ) (d : PlainDocument) (r : Result Finding AllocError) → Reads bytes d → IfOk r (FindsIn d) → IfOk r (Judged bytes)
judged_if bytes d (Ok f) reads h = judged bytes d f reads h
judged_if bytes d (Err a) reads h = tt

told_on : (bytes : List ℕ) (d : PlainDocument) (f : Finding) (behind : List ℕ) → Reads bytes d → IsReportedOf d f behind → IsReported bytes f behind
told_on bytes d (Accepted strict) behind r t = record { document = d; reads = r; reports = t }
told_on bytes d RefusedDocument behind r t = t
told_on bytes d RefusedHandles behind r t = t
told_on bytes d (Refused step index) behind r t = t

pub judgement_if : (bytes : List ℕ) (d : PlainDocument) (r : Result Judgement AllocError) → Reads bytes d → IfOk r (IsJudgementOf d) → IfOk r (IsJudgementOn bytes)
judgement_if bytes d (Ok j) reads h = record { finding = judged bytes d j.finding reads h.finding; told = told_on bytes d j.finding (string_bytes j.report) reads h.told }
judgement_if bytes d (Err a) reads h = tt

-- the report for bytes that are not a document
pub nothing_on : (bytes : List ℕ) (j : Judgement) → j.finding ≡ RefusedDocument → string_bytes j.report ≡ [] → ((d : PlainDocument) → ¬ Reads bytes d) → IsJudgementOn bytes j
nothing_on bytes j is empty none = record {
  finding = subst (Judged bytes) (sym is) none;
  told = subst (λ f. IsReported bytes f (string_bytes j.report)) (sym is) empty;
}
