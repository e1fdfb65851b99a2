-- The guarantees for a valid document hold of the expected text for its bytes.
use Rattle.std.proofs.Common.{◌≡◌, ℕ, Bool, List, ◌++◌, IsTrue, codes, nat_eq, subst}
use Rattle.std.specs.List.{starts_with}
use Rattle.document_reader.specs.judged.Plain.{PlainDocument}
use Rattle.document_reader.specs.judged.Form.{Reads}
use Rattle.judgement.specs.judged.Steps.{IsFinding}
use Rattle.judgement.specs.judged.Text.{text_of}
use Rattle.judgement.specs.declared.finding.Finding.{Finding}
use Rattle.judgement.specs.declared.finding.Finding.TheVariants.{Accepted, RefusedDocument, RefusedHandles, Refused}
use Rattle.judgement_laws.proofs.Local.{reports_are_local}
use Rattle.judgement_laws.proofs.Sound.{accepted_is_sound}
use Rattle.judgement.specs.judged.Reports.{IsReport}
use Rattle.shader_check.proofs.Returns.{returns_dont_show_lem}
use Rattle.shader_check.specs.judged.Theorem.{IsReportedIn, IsTextOn, of_document, no_document, SoundText, AcceptedTextsAreSound}

module _ (bytes text : List ℕ) (d : PlainDocument) (reads : Reads bytes d) (t : IsTextOn d text) where
  accepted_text : (strict : Bool) → IsFinding d.settings t.judged (Accepted strict) → IsReport t.judged t.behind → text ≡ text_of (Accepted strict) ++ t.behind → SoundText bytes text
  accepted_text strict found reports is = record {
    document = d;
    reads = reads;
    judged = t.judged;
    prepared = t.prepared;
    strict = strict;
    accepted = found;
    report = t.behind;
    reports = reports;
    text_is = is;
    sound = λ checked. accepted_is_sound d.returns d.settings d.content t.judged strict t.prepared found checked t.behind reports;
    local = λ number e at. reports_are_local t.judged t.behind reports number e at;
    without_results = λ none returns. returns_dont_show_lem bytes text (of_document d reads t) d reads none returns;
  }

  -- only the text of a valid document begins so
  by_finding : (f : Finding) → IsFinding d.settings t.judged f → IsReportedIn t.judged f t.behind → text ≡ text_of f ++ t.behind → IsTrue (starts_with nat_eq (text_of f ++ t.behind) (codes "accepted")) → SoundText bytes text
  by_finding (Accepted strict) found told is begins = accepted_text strict found told is
  by_finding RefusedDocument found told is begins = absurd found
  by_finding RefusedHandles found told is begins = absurd (cc (begins))
  by_finding (Refused step index) found told is begins = absurd (cc (begins))

none_begins : IsTrue (starts_with nat_eq (text_of RefusedDocument) (codes "accepted")) → ⊥
none_begins begins = cc (begins)

pub accepted_texts_are_sound_lem : AcceptedTextsAreSound
accepted_texts_are_sound_lem bytes text (of_document d reads t) begins =
    by_finding bytes text d reads t t.finding t.found t.reported t.text_is (subst (λ x. IsTrue (starts_with nat_eq x (codes "accepted"))) t.text_is begins)
accepted_texts_are_sound_lem bytes text (no_document none is) begins = absurd (none_begins (subst (λ x. IsTrue (starts_with nat_eq x (codes "accepted"))) is begins))
