-- The text for a valid SPIR-V module comes with all guarantees.
use Rattle.std.proofs.Common.{◌≡◌, ◌++◌, ℕ, List, string_bytes, ap, subst}
use Rattle.std.specs.Int.RustNames.{bit_and}
use Rattle.ir_flags.specs.declared.settings.TheConstants.ValidationFlags.{BLOCKS, EXPRESSIONS, STRUCT_LAYOUTS}
use Rattle.ir_flags.specs.declared.settings.Settings.{Settings}
use Rattle.document_reader.specs.judged.Plain.{PlainDocument}
use Rattle.judgement.specs.judged.Text.{text_of}
use Rattle.judgement.specs.declared.finding.Finding.{Finding}
use Rattle.judgement.specs.declared.finding.Finding.TheVariants.{Accepted, RefusedDocument, RefusedHandles, Refused}
use Rattle.judgement_laws.proofs.Sound.{accepted_is_sound}
use Rattle.judgement_laws.specs.judged.Sound.{AreChecked}
use Rattle.judgement.specs.judged.Reports.{IsReport}
pub use Rattle.shader_check.proofs.Once.{prepared_once}
use Rattle.shader_check.specs.found.Judgements.{FindsIn, IsReportedOf}
use Rattle.spirv_reader.specs.Checks.{MakesSixChecks}
use Rattle.check_explanation.specs.Answered.{IsAnswered, IsTextOfSome, IsSoundText, verdict_of}
use Rattle.check_explanation.specs.declared.spirv.SpirvVerdict.{SpirvVerdict}
use Rattle.check_explanation.specs.declared.spirv.SpirvVerdict.TheVariants as verdict

-- the six checks include those for layouts, bodies and expressions
pub checked : (s : Settings) → MakesSixChecks s.flags → AreChecked s
checked s h = record {
  layouts = ap (λ n. bit_and n STRUCT_LAYOUTS.0) h;
  blocks = ap (λ n. bit_and n BLOCKS.0) h;
  expressions = ap (λ n. bit_and n EXPRESSIONS.0) h;
}

sound_finding : (d : PlainDocument) → AreChecked d.settings → (f : Finding) (report text : List ℕ) → verdict.Accepted ≡ verdict_of f → FindsIn d f → IsReportedOf d f report → text ≡ text_of f ++ report → IsSoundText text
sound_finding d checked (Accepted strict) report text is judged told t =
    let m = judged.judged in
    let reports : IsReport m report = subst (λ x. IsReport x report) (prepared_once d.returns d.content told.judged m told.prepared judged.prepared) told.is in
    record {
      document = d;
      judged = m;
      prepared = judged.prepared;
      strict = strict;
      accepted = judged.finding;
      report = report;
      reports = reports;
      text_is = t;
      sound = accepted_is_sound d.returns d.settings d.content m strict judged.prepared judged.finding checked report reports;
    }
sound_finding d checked RefusedDocument report text is judged told t = absurd (cc is)
sound_finding d checked RefusedHandles report text is judged told t = absurd (cc is)
sound_finding d checked (Refused step index) report text is judged told t = absurd (cc is)

sound_text : (text : List ℕ) → IsTextOfSome verdict.Accepted text → IsSoundText text
sound_text text t = let j = t.judgement in sound_finding t.of.document t.of.checked j.finding (string_bytes j.report) text t.verdict_is t.of.is.finding t.of.is.told t.text_is

pub sound_answer : (v : SpirvVerdict) (text : List ℕ) → IsAnswered v text → v ≡ verdict.Accepted → IsSoundText text
sound_answer verdict.Accepted text a is = sound_text text a
sound_answer verdict.Refused text a is = absurd (cc is)
sound_answer verdict.Unread text a is = absurd (cc is)
