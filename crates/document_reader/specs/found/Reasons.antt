-- Why bytes are no document: what each error guarantees.
use Rattle.std.specs.Prelude.{◌≡◌, ℕ, ◌≤◌, ◌<◌, List, length, Some, None, IsUtf8}
use Rattle.serde_json.specs.Data.{Data}
use Rattle.serde_json.specs.Read.{read}
use Rattle.document_forms.specs.declared.error.ReadError.{ReadError}
use Rattle.document_forms.specs.declared.error.ReadError.TheVariants as part
use Rattle.document_reader.specs.declared.error.DocumentError.{DocumentError}
use Rattle.document_reader.specs.declared.error.DocumentError.TheVariants as whole
use Rattle.document_reader.specs.declared.reading.TheConstants.{MAX_LEN}
use Rattle.document_reader.specs.judged.Distinct.{AreDistinct}
use Rattle.document_reader.specs.judged.Form.{ADocument}
use Rattle.document_reader.specs.judged.Plain.{PlainDocument}

-- The bytes are a JSON value, which encodes no document with distinct types.
pub record IsMalformed (bytes : List ℕ) : Type 0 where
  pub short : length bytes ≤ MAX_LEN
  pub utf8 : IsUtf8 bytes
  pub value : Data
  pub value_is : read bytes ≡ Some value
  pub none : (d : PlainDocument) → ADocument d value → ¬ AreDistinct d.content.types

-- The error is right about the bytes. Out of memory says nothing about them.
abbrev pub IsReason : List ℕ → DocumentError → Type 0
IsReason bytes whole.Memory = Unit {0}
IsReason bytes whole.TooLong = MAX_LEN < length bytes
IsReason bytes (whole.NotJson line column) = (length bytes ≤ MAX_LEN) × (IsUtf8 bytes → read bytes ≡ None)
IsReason bytes (whole.Malformed place wanted) = IsMalformed bytes

-- the document error of a decoder's error
abbrev pub of_part : ReadError → DocumentError
of_part part.Memory = whole.Memory
of_part (part.Malformed place wanted) = whole.Malformed place wanted
