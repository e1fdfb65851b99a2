-- The encoding relation of entry points.
use Rattle.serde_json.specs.Data.{Data}
use Rattle.ir_items.specs.judged.Plain.{PlainEntry}
use Rattle.document_words.specs.Tables.{entry_stages}
use Rattle.document_forms.specs.judged.Form.{AHandle, AText, AWord, Maybe, AnArray, Ends, ◌▸◌}
use Rattle.document_items.specs.judged.ItemForm.{AnEarlyDepthTest, TheSizes, AMesh}
use Rattle.document_reader.specs.judged.FunctionForm.{AFunction}

abbrev pub AnEntry : PlainEntry → Data → Type 0
AnEntry e = AnArray (AWord entry_stages e.stage ▸ AText e.name ▸ Maybe AnEarlyDepthTest e.early ▸ TheSizes e.sizes ▸ Maybe AMesh e.mesh ▸
    Maybe AHandle e.payload ▸ AFunction e.function ▸ Ends)
