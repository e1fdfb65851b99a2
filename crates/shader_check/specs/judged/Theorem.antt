-- The theorem of the program: the expected text for bytes, its guarantees, and what a check reads, writes and returns.
-- The contracts of `check_document` and `outcome` use these definitions.
use Rattle.std.specs.Prelude.{◌≡◌, ◌↔◌, ◌⊎◌, ℕ, List, [], ◌++◌, Bool, Option, Some, IfSome, IsTrue, Result, Ok, Err, codes, nat_eq, slice_get}
use Rattle.std.specs.List.{starts_with}
use Rattle.std.specs.Io.KnownBytes.{Appends}
use Rattle.check_ports.specs.Calls.{Call}
use Rattle.check_ports.specs.Source.{TakesAll, ReadsAll, ReadingStops}
use Rattle.check_ports.specs.Sink.{AppendsFront, WritesAll, WritingFails}
use Rattle.check_ports.specs.declared.source.TheConstants.{MAX_CALLS}
use Rattle.check_ports.specs.declared.source.TakeError.{TakeError}
use Rattle.check_ports.specs.declared.source.TakeError.TheVariants as take
use Rattle.ir_items.specs.judged.Plain.{PlainEntry, PlainModule}
use Rattle.document_reader.specs.judged.Plain.{PlainDocument}
use Rattle.document_reader.specs.judged.Form.{Reads}
use Rattle.judgement.specs.judged.Steps.{IsFinding, IsPrepared}
use Rattle.judgement.specs.judged.Text.{text_of}
use Rattle.judgement.specs.declared.finding.Finding.{Finding}
use Rattle.judgement.specs.declared.finding.Finding.TheVariants as finding
use Rattle.judgement_laws.specs.judged.Like.{HasNoResult}
use Rattle.judgement_laws.specs.judged.Local.{EntryIsLocal}
use Rattle.judgement_laws.specs.judged.Sound.{AreChecked, ModuleIsSound}
use Rattle.judgement.specs.judged.Reports.{IsReport}
use Rattle.shader_check.specs.declared.check.TheConstants.{MAX_TAKEN}
use Rattle.shader_check.specs.declared.check.Verdict.{Verdict}
use Rattle.shader_check.specs.declared.check.Verdict.TheVariants.{Accepted, Refused}
use Rattle.shader_check.specs.declared.check.Fault.{Fault}
use Rattle.shader_check.specs.declared.check.Fault.TheVariants.{Memory, Read, Write}

-- ---- the text for a document

-- the text after the line of the finding: empty, or the report if the module is valid
abbrev pub IsReportedIn : PlainModule → Finding → (behind : List ℕ) → Type 0
IsReportedIn m (finding.Accepted strict) behind = IsReport m behind
IsReportedIn m finding.RefusedDocument behind = behind ≡ []
IsReportedIn m finding.RefusedHandles behind = behind ≡ []
IsReportedIn m (finding.Refused step index) behind = behind ≡ []

-- The document's module, with missing returns inserted if requested, is validated; the text is the line of the finding, followed by
-- the report if it is valid.
pub record IsTextOn (d : PlainDocument) (text : List ℕ) : Type 0 where
  pub judged : PlainModule
  pub prepared : IsPrepared d.returns d.content judged
  pub finding : Finding
  pub found : IsFinding d.settings judged finding
  pub behind : List ℕ
  pub reported : IsReportedIn judged finding behind
  pub text_is : text ≡ text_of finding ++ behind

-- ---- the expected text

-- The expected text for these bytes: that of the document in them, or else that they are not a document.
pub data IsExpected (bytes text : List ℕ) : Type 0 where
  of_document : (d : PlainDocument) → Reads bytes d → IsTextOn d text → IsExpected bytes text
  no_document : ((d : PlainDocument) → ¬ Reads bytes d) → text ≡ text_of finding.RefusedDocument → IsExpected bytes text

-- at most one text is expected for given bytes
abbrev pub OneText : Type 0
OneText = (bytes s t : List ℕ) → IsExpected bytes s → IsExpected bytes t → s ≡ t

-- some text is expected for any bytes (as a double negation)
abbrev pub SomeText : Type 0
SomeText = (bytes : List ℕ) → ¬ ((text : List ℕ) → ¬ IsExpected bytes text)

-- ---- with and without missing returns inserted

-- the document, with missing returns requested or not
abbrev pub with_returns : PlainDocument → Bool → PlainDocument
with_returns d returns = record d { returns = returns }

-- If the bytes are a document in which no function and no entry point has a result, the text is that of the document whether
-- missing returns are inserted or not.
abbrev pub IsTextWithoutResults : (bytes text : List ℕ) → Type 0
IsTextWithoutResults bytes text = (d : PlainDocument) → Reads bytes d → HasNoResult d.content → (returns : Bool) → IsTextOn (with_returns d returns) text

-- the same for each expected text for given bytes
abbrev pub ReturnsDontShow : Type 0
ReturnsDontShow = (bytes text : List ℕ) → IsExpected bytes text → IsTextWithoutResults bytes text

-- ---- the guarantees for a valid document

-- The bytes are a valid document, and the text has all guarantees.
pub record SoundText (bytes text : List ℕ) : Type 0 where
  -- The document,
  pub document : PlainDocument
  pub reads : Reads bytes document
  -- whose module, with missing returns inserted if requested, is validated
  pub judged : PlainModule
  pub prepared : IsPrepared document.returns document.content judged
  -- and valid, with strict scope checked or not.
  pub strict : Bool
  pub accepted : IsFinding document.settings judged (finding.Accepted strict)
  -- The text is `accepted` or `accepted strict`, and the report of the module.
  pub report : List ℕ
  pub reports : IsReport judged report
  pub text_is : text ≡ text_of (finding.Accepted strict) ++ report
  -- If layouts, bodies and expressions are checked, each buffer is well laid out, and every run of each entry point is safe,
  -- with what it references and samples listed by lines of this report.
  pub sound : AreChecked document.settings → ModuleIsSound document.returns document.settings judged report
  -- The lines of an entry point are those in the report of every module that differs only in functions not reachable from it.
  pub local : (number : ℕ) (e : PlainEntry) → slice_get judged.entries number ≡ Some e → EntryIsLocal judged report number e
  -- If no function and no entry point has a result, the text is the same whether missing returns are inserted or not.
  pub without_results : HasNoResult document.content → (returns : Bool) → IsTextOn (with_returns document returns) text

-- the same for each expected text for given bytes, if it begins with `accepted`
abbrev pub AcceptedTextsAreSound : Type 0
AcceptedTextsAreSound = (bytes text : List ℕ) → IsExpected bytes text → IsTrue (starts_with nat_eq text (codes "accepted")) → SoundText bytes text

-- ---- what a check returns, reads and writes

-- the result for a finding
abbrev pub verdict_of : Finding → Verdict
verdict_of (finding.Accepted strict) = Accepted
verdict_of finding.RefusedDocument = Refused
verdict_of finding.RefusedHandles = Refused
verdict_of (finding.Refused step index) = Refused

-- The expected text for what the reader gave, and for all that it had left, if that is known; for a document without results
-- it is the same with and without missing returns inserted. If the rest is not known, this says so of some bytes,
-- and only the clauses on calls say of which.
pub record IsExpectedFor (old new : Option (List ℕ)) (text : List ℕ) : Type 0 where
  pub given : List ℕ
  pub taken : TakesAll old new MAX_TAKEN given
  pub expected : IsExpected given text
  pub expected_for_all : IfSome old (λ input. IsExpected input text)
  pub without_results : IsTextWithoutResults given text

-- The writer received the expected text and nothing else, if its contents are known; the verdict is its start, and if the document
-- is valid all guarantees hold.
pub record Answers (left left' held held' : Option (List ℕ)) (verdict : Verdict) : Type 0 where
  pub text : List ℕ
  pub expected : IsExpectedFor left left' text
  pub received : Appends held held' text
  pub verdict_is : (verdict ≡ Accepted) ↔ IsTrue (starts_with nat_eq text (codes "accepted"))
  pub sound : verdict ≡ Accepted → SoundText expected.given text

-- The writer received a proper prefix of the expected text and nothing else.
pub record BreaksOff (left left' held held' : Option (List ℕ)) : Type 0 where
  pub text : List ℕ
  pub expected : IsExpectedFor left left' text
  pub received : AppendsFront held held' text

-- The expected text for the bytes that calls of the reader gave; for a document without results it is the same with and without
-- missing returns inserted.
pub record IsExpectedForCalls {R : Type 0} (reads : R → R → Call → Type 0) (reader reader' : R) (text : List ℕ) : Type 0 where
  pub given : List ℕ
  pub read : ReadsAll reads reader reader' MAX_TAKEN MAX_CALLS given
  pub expected : IsExpected given text
  pub without_results : IsTextWithoutResults given text

-- Calls of the writer accepted the expected text whole, the verdict is what the text begins with, and if the document is
-- valid all guarantees hold.
pub record AnswersInCalls {R W : Type 0} (reads : R → R → Call → Type 0) (reader reader' : R) (writes : W → W → Call → Type 0) (writer writer' : W) (verdict : Verdict) : Type 0 where
  pub text : List ℕ
  pub expected : IsExpectedForCalls reads reader reader' text
  pub written : WritesAll writes writer writer' text
  pub verdict_is : (verdict ≡ Accepted) ↔ IsTrue (starts_with nat_eq text (codes "accepted"))
  pub sound : verdict ≡ Accepted → SoundText expected.given text

-- Calls of the writer accepted a prefix of the expected text, and the last of them nothing.
pub record BreaksOffInCalls {R W : Type 0} (reads : R → R → Call → Type 0) (reader reader' : R) (writes : W → W → Call → Type 0) (writer writer' : W) : Type 0 where
  pub text : List ℕ
  pub expected : IsExpectedForCalls reads reader reader' text
  pub written : WritingFails writes writer writer' text

-- After a failed allocation: the last call of the reader gave bytes for which there was no space, or all input was read.
abbrev pub ReadsSome : {R : Type 0} (reads : R → R → Call → Type 0) (reader reader' : R) → Type 0
ReadsSome reads reader reader' = ReadingStops reads reader reader' MAX_TAKEN MAX_CALLS ⊎ ((given : List ℕ) × ReadsAll reads reader reader' MAX_TAKEN MAX_CALLS given)

-- ---- faults, the exit status and the message

abbrev pub fault_of : TakeError → Fault
fault_of take.Memory = Memory
fault_of take.Read = Read

abbrev pub status_of : Result Verdict Fault → ℕ
status_of (Ok Accepted) = 0
status_of (Ok Refused) = 1
status_of (Err f) = 2

abbrev pub message_of : Result Verdict Fault → List ℕ
message_of (Ok v) = []
message_of (Err Memory) = codes "fault: memory\n"
message_of (Err Read) = codes "fault: read\n"
message_of (Err Write) = codes "fault: write\n"
