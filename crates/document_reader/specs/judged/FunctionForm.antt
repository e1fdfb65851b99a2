-- The encoding relation of functions.
use Rattle.serde_json.specs.Data.{Data}
use Rattle.ir_items.specs.judged.Plain.{PlainArgument, PlainLocal, PlainFunction}
use Rattle.ir_items.specs.declared.functions.FunctionResult.{FunctionResult}
use Rattle.document_forms.specs.judged.Form.{AHandle, AText, Maybe, AnArray, AList, Ends, ◌▸◌}
use Rattle.document_items.specs.judged.Form.{ABinding}
use Rattle.document_expressions.specs.judged.Form.{AnExpression}
use Rattle.document_reader.specs.judged.StatementForm.{TheStatements}

abbrev pub AnArgument : PlainArgument → Data → Type 0
AnArgument a = AnArray (Maybe AText a.name ▸ AHandle a.ty ▸ Maybe ABinding a.binding ▸ Ends)

abbrev pub AResult : FunctionResult → Data → Type 0
AResult r = AnArray (AHandle r.ty ▸ Maybe ABinding r.binding ▸ Ends)

abbrev pub ALocal : PlainLocal → Data → Type 0
ALocal l = AnArray (Maybe AText l.name ▸ AHandle l.ty ▸ Maybe AHandle l.init ▸ Ends)

abbrev pub AFunction : PlainFunction → Data → Type 0
AFunction f = AnArray (Maybe AText f.name ▸ AList AnArgument f.arguments ▸ Maybe AResult f.result ▸ AList ALocal f.locals ▸ AList AnExpression f.expressions ▸
    AnArray (TheStatements f.body) ▸ Maybe AHandle f.leaf ▸ Ends)
