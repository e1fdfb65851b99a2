-- The expected text for the bytes that were read is that for all of them.
use Rattle.std.proofs.Common.{◌≡◌, ◌↔◌, ◌⊎◌, inl, inr, ℕ, Bool, true, false, List, ◌++◌, length, length-append, append-nil, Option, Some, None, IfSome, IsTrue, codes, nat_eq, string_bytes, refl, sym, ap, subst, ◌∙◌, arith}
use Rattle.std.specs.List.{starts_with}
use Rattle.std.specs.Io.KnownBytes.{Consumes, IsAtEnd}
use Rattle.check_ports.specs.Source.{TakesAll}
use Rattle.document_reader.proofs.Seam.{one_document_lem}
use Rattle.judgement.specs.judged.Reports.{IsReport}
use Rattle.judgement.specs.judged.Text.{text_of}
use Rattle.judgement.specs.declared.finding.Finding.{Finding}
use Rattle.judgement.specs.declared.finding.Finding.TheVariants.{Accepted, RefusedDocument, RefusedHandles, Refused}
use Rattle.shader_check.proofs.Promises.{accepted_texts_are_sound_lem}
use Rattle.shader_check.proofs.Returns.{returns_dont_show_lem}
use Rattle.shader_check.proofs.Once.{prepared_once}
use Rattle.shader_check.specs.found.Judgements.{Finds, IsReportFor, IsReportOn, Judged, IsReported, IsJudgementOn}
use Rattle.shader_check.specs.judged.Theorem.{IsExpected, of_document, no_document, IsTextWithoutResults, SoundText}
use Rattle.shader_check.specs.judged.Theorem.{verdict_of, IsExpectedFor}
use Rattle.shader_check.specs.declared.check.TheConstants.{MAX_TAKEN}
use Rattle.shader_check.specs.declared.check.Verdict.TheVariants as verdict
use Rattle.shader_check.specs.declared.reported.Judgement.{Judgement}

-- a document that is too long is invalid, whatever follows
judged_longer : (f : Finding) (given rest : List ℕ) → length given ≡ MAX_TAKEN → Judged given f → Judged (given ++ rest) f
judged_longer (Accepted strict) given rest long h = absurd (let s = h.reads.short in omega arith)
judged_longer RefusedDocument given rest long h = λ d r. let s = r.short in omega (arith, length-append given rest)
judged_longer RefusedHandles given rest long h = absurd (let s = h.reads.short in omega arith)
judged_longer (Refused step index) given rest long h = absurd (let s = h.reads.short in omega arith)

told_longer : (f : Finding) (behind given rest : List ℕ) → length given ≡ MAX_TAKEN → IsReported given f behind → IsReported (given ++ rest) f behind
told_longer (Accepted strict) behind given rest long h = absurd (let s = h.reads.short in omega arith)
told_longer RefusedDocument behind given rest long h = h
told_longer RefusedHandles behind given rest long h = h
told_longer (Refused step index) behind given rest long h = h

-- the module that is valid is the one of the report
expected_accepted : (bytes : List ℕ) (strict : Bool) (behind : List ℕ) → Finds bytes (Accepted strict) → IsReportFor bytes behind → IsExpected bytes (text_of (Accepted strict) ++ behind)
expected_accepted bytes strict behind h t =
    let d = h.document in
    let m = h.found.judged in
    let on : IsReportOn d behind = subst (λ x. IsReportOn x behind) (one_document_lem bytes t.document d t.reads h.reads) t.reports in
    let reports : IsReport m behind = subst (λ x. IsReport x behind) (prepared_once d.returns d.content on.judged m on.prepared h.found.prepared) on.is in
    of_document d h.reads (record { judged = m; prepared = h.found.prepared; finding = Accepted strict; found = h.found.finding; behind = behind; reported = reports; text_is = refl })

-- the text of a finding, with what follows its line
pub expected : (f : Finding) (behind bytes : List ℕ) → Judged bytes f → IsReported bytes f behind → IsExpected bytes (text_of f ++ behind)
expected (Accepted strict) behind bytes h t = expected_accepted bytes strict behind h t
expected RefusedDocument behind bytes h t = no_document h (ap (λ z. text_of RefusedDocument ++ z) t ∙ append-nil (text_of RefusedDocument))
expected RefusedHandles behind bytes h t =
    of_document h.document h.reads (record { judged = h.found.judged; prepared = h.found.prepared; finding = RefusedHandles; found = h.found.finding; behind = behind; reported = t; text_is = refl })
expected (Refused step index) behind bytes h t =
    of_document h.document h.reads (record { judged = h.found.judged; prepared = h.found.prepared; finding = Refused step index; found = h.found.finding; behind = behind; reported = t; text_is = refl })

module _ (f : Finding) (behind : List ℕ) where
  expected_for_all : (old new : Option (List ℕ)) (given : List ℕ) → Consumes old new given → IsAtEnd new ⊎ (length given ≡ MAX_TAKEN) → Judged given f → IsReported given f behind
      → IfSome old (λ input. IsExpected input (text_of f ++ behind))
  expected_for_all None new given c s h t = tt
  expected_for_all (Some input) None given c s h t = absurd c
  expected_for_all (Some input) (Some rest) given c (inl e) h t =
      let same : given ≡ input = sym (c ∙ (ap (λ z. given ++ z) e ∙ append-nil given)) in
      expected f behind input (subst (λ z. Judged z f) same h) (subst (λ z. IsReported z f behind) same t)
  expected_for_all (Some input) (Some rest) given c (inr e) h t =
      expected f behind input (subst (λ z. Judged z f) (sym c) (judged_longer f given rest e h)) (subst (λ z. IsReported z f behind) (sym c) (told_longer f behind given rest e t))

-- for a document without results the text is the same with and without missing returns inserted
pub without_results : (given : List ℕ) (j : Judgement) → IsJudgementOn given j → IsTextWithoutResults given (text_of j.finding ++ string_bytes j.report)
without_results given j h = returns_dont_show_lem given (text_of j.finding ++ string_bytes j.report) (expected j.finding (string_bytes j.report) given h.finding h.told)

pub expected_for : (old new : Option (List ℕ)) (given : List ℕ) (j : Judgement) → TakesAll old new MAX_TAKEN given → IsJudgementOn given j → IsExpectedFor old new (text_of j.finding ++ string_bytes j.report)
expected_for old new given j t h = record {
  given = given;
  taken = t;
  expected = expected j.finding (string_bytes j.report) given h.finding h.told;
  expected_for_all = expected_for_all j.finding (string_bytes j.report) old new given t.consumed t.stopped h.finding h.told;
  without_results = without_results given j h;
}

pub verdict_is : (f : Finding) (behind : List ℕ) → (verdict_of f ≡ verdict.Accepted) ↔ IsTrue (starts_with nat_eq (text_of f ++ behind) (codes "accepted"))
verdict_is (Accepted false) behind = (λ _. refl, λ _. refl)
verdict_is (Accepted true) behind = (λ _. refl, λ _. refl)
verdict_is RefusedDocument behind = (λ e. cc, λ e. cc)
verdict_is RefusedHandles behind = (λ e. cc, λ e. cc)
verdict_is (Refused step index) behind = (λ e. cc, λ e. cc)

-- the result that the document is valid comes with all guarantees
pub sound_answer : (old new : Option (List ℕ)) (given : List ℕ) (j : Judgement) (t : TakesAll old new MAX_TAKEN given) (h : IsJudgementOn given j) → verdict_of j.finding ≡ verdict.Accepted
    → SoundText (expected_for old new given j t h).given (text_of j.finding ++ string_bytes j.report)
unfolding expected_for
sound_answer old new given j t h is =
    accepted_texts_are_sound_lem given (text_of j.finding ++ string_bytes j.report) (expected j.finding (string_bytes j.report) given h.finding h.told) ((verdict_is j.finding (string_bytes j.report)).0 is)

-- the same for bytes that calls of the reader gave
pub sound_of : (given : List ℕ) (j : Judgement) → IsJudgementOn given j → verdict_of j.finding ≡ verdict.Accepted → SoundText given (text_of j.finding ++ string_bytes j.report)
sound_of given j h is =
    accepted_texts_are_sound_lem given (text_of j.finding ++ string_bytes j.report) (expected j.finding (string_bytes j.report) given h.finding h.told) ((verdict_is j.finding (string_bytes j.report)).0 is)
