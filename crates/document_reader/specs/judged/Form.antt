-- The encoding relation of documents, and when bytes encode one.
use Rattle.std.specs.Prelude.{◌≡◌, ℕ, ◌≤◌, List, length, Some, IsUtf8}
use Rattle.std.specs.Int.RustNames.{bit_or}
use Rattle.serde_json.specs.Data.{Data, number, unsigned}
use Rattle.serde_json.specs.Read.{read}
use Rattle.document_words.specs.Tables.{flags, capabilities, stages, operations}
use Rattle.document_forms.specs.judged.Form.{AHandle, ABool, ASet, Maybe, AnArray, AList, Ends, ◌▸◌}
use Rattle.document_items.specs.judged.Form.{AType}
use Rattle.document_expressions.specs.judged.Form.{AnExpression}
use Rattle.document_items.specs.judged.ItemForm.{ASpecial, AFilter, AConstant, AnOverride, AGlobal}
use Rattle.document_reader.specs.judged.FunctionForm.{AFunction}
use Rattle.document_reader.specs.judged.EntryForm.{AnEntry}
use Rattle.document_reader.specs.declared.reading.TheConstants.{MAX_LEN}
use Rattle.document_reader.specs.judged.Distinct.{AreDistinct}
use Rattle.document_reader.specs.judged.Plain.{PlainDocument}

-- the version of the format, 1; flags, capabilities, the subgroup stages and operations, returns; types, special types, filters
-- with the innermost filter of the module, constants, overrides, global expressions, globals, functions, entries
abbrev pub ADocument : PlainDocument → Data → Type 0
ADocument d = AnArray ((λ v. v ≡ number (unsigned 1)) ▸ ASet flags (record { 0 = 0 }) (λ a b. record { 0 = bit_or a.0 b.0 }) d.settings.flags ▸
    ASet capabilities (record { 0 = 0 }) (λ a b. record { 0 = bit_or a.0 b.0 }) d.settings.capabilities ▸
    AnArray (ASet stages (record { 0 = 0 }) (λ a b. record { 0 = bit_or a.0 b.0 }) d.settings.subgroup_stages ▸
    ASet operations (record { 0 = 0 }) (λ a b. record { 0 = bit_or a.0 b.0 }) d.settings.subgroup_operations ▸ Ends) ▸ ABool d.returns ▸
    AList AType d.content.types ▸ ASpecial d.content.special ▸ AnArray (AList AFilter d.content.filters ▸ Maybe AHandle d.content.leaf ▸ Ends) ▸
    AList AConstant d.content.constants ▸ AList AnOverride d.content.overrides ▸ AList AnExpression d.content.global_expressions ▸
    AList AGlobal d.content.globals ▸ AList AFunction d.content.functions ▸ AList AnEntry d.content.entries ▸ Ends)

-- The bytes are not too many, and the JSON reader reads them as this value.
pub record IsValueOf (bytes : List ℕ) (value : Data) : Type 0 where
  pub short : length bytes ≤ MAX_LEN
  pub utf8 : IsUtf8 bytes
  pub value_is : read bytes ≡ Some value

-- The bytes are not too many, the JSON reader reads them as a value, that value encodes the document, and
-- its types are distinct.
pub record Reads (bytes : List ℕ) (d : PlainDocument) : Type 0 where
  pub short : length bytes ≤ MAX_LEN
  pub utf8 : IsUtf8 bytes
  pub value : Data
  pub value_is : read bytes ≡ Some value
  pub form : ADocument d value
  pub distinct : AreDistinct d.content.types

-- bytes encode at most one document
abbrev pub OneDocument : Type 0
OneDocument = (bytes : List ℕ) (d e : PlainDocument) → Reads bytes d → Reads bytes e → d ≡ e
