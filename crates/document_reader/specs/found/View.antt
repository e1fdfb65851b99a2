-- The view of a `Document` as plain data.
use Rattle.ir_items.specs.found.View.{module_view}
use Rattle.document_reader.specs.judged.Plain.{PlainDocument}
use Rattle.document_reader.specs.declared.model.Document.{Document}

abbrev pub document_view : Document → PlainDocument
document_view d = record { settings = d.settings; returns = d.returns; content = module_view d.«module» }
