-- Bytes encode no document, or there is one document that alone they may encode.
use Rattle.std.proofs.Common.{◌≡◌, ◌⊎◌, inl, inr, ℕ, ◌≤◌, List, length, true, false, true≢false, Some, None, IsUtf8, refl, sym, ◌∙◌, arith}
use Rattle.std.specs.Str.{is_utf8}
use Rattle.std.proofs.lemmas.Bool.{cases_lt}
use Rattle.std.proofs.lemmas.Str.{IsUtf8-from_is_utf8, is_utf8-from_IsUtf8}
use Rattle.std.proofs.lemmas.Option.{same_Some}
use Rattle.serde_json.specs.Data.{Data}
use Rattle.serde_json.specs.Read.{read}
use Rattle.document_reader.specs.judged.Distinct.{AreDistinct}
use Rattle.document_reader.specs.judged.Plain.{PlainDocument}
use Rattle.document_reader.specs.found.Documents.{document_in}
use Rattle.document_reader.specs.judged.Form.{IsValueOf, Reads}
use Rattle.document_reader.specs.declared.reading.TheConstants.{MAX_LEN}
use Rattle.document_reader.proofs.Seam.{found_in, reads_document}

-- A document that the bytes encode if its types are distinct, and apart from which they encode none.
pub record IsCandidate (bytes : List ℕ) (d : PlainDocument) : Type 0 where
  pub spelled : AreDistinct d.content.types → Reads bytes d
  pub alone : (e : PlainDocument) → Reads bytes e → e ≡ d

abbrev pub Candidate : List ℕ → Type 0
Candidate bytes = ((d : PlainDocument) → ¬ Reads bytes d) ⊎ ((d : PlainDocument) × IsCandidate bytes d)

by_value : (bytes : List ℕ) → length bytes ≤ MAX_LEN → IsUtf8 bytes → (v : Data) → read bytes ≡ Some v → Candidate bytes
by_value bytes short utf8 v is =
    let value : IsValueOf bytes v = record { short = short; utf8 = utf8; value_is = is } in
    elim (document_in v) as (λ o. document_in v ≡ o → Candidate bytes) [
      | None ↦ λ e. inl (λ d r. absurd (let k : None ≡ Some d = sym e ∙ found_in bytes v d is r in cc))
      | Some d ↦ λ e. inr (
        d,
        record {
          spelled = λ distinct. reads_document bytes v d value (sym e) distinct;
          alone = λ other r. same_Some other d (sym (found_in bytes v other is r) ∙ e);
        },
      )
    ] refl

by_json : (bytes : List ℕ) → length bytes ≤ MAX_LEN → IsUtf8 bytes → Candidate bytes
by_json bytes short utf8 =
    elim (read bytes) as (λ o. read bytes ≡ o → Candidate bytes) [
      | None ↦ λ e. inl (λ d r. absurd (let k : None ≡ Some r.value = sym e ∙ r.value_is in cc))
      | Some v ↦ λ e. by_value bytes short utf8 v e
    ] refl

by_text : (bytes : List ℕ) → length bytes ≤ MAX_LEN → Candidate bytes
by_text bytes short =
    elim (is_utf8 bytes) as (λ b. is_utf8 bytes ≡ b → Candidate bytes) [
      | true ↦ λ e. by_json bytes short (IsUtf8-from_is_utf8 bytes e)
      | false ↦ λ e. inl (λ d r. true≢false (sym (is_utf8-from_IsUtf8 bytes r.utf8) ∙ e))
    ] refl

pub candidate : (bytes : List ℕ) → Candidate bytes
candidate bytes =
    elim (cases_lt MAX_LEN (length bytes)) [
      | inl long ↦ inl (λ d r. let short = r.short in omega (arith, long, short))
      | inr short ↦ by_text bytes short
    ]
