-- Decoding functions of functions and entry points, which agree with the encoding relations.
use Rattle.std.specs.Prelude.{refl}
use Rattle.ir_items.specs.judged.Plain.{PlainArgument, PlainLocal, PlainFunction, PlainEntry}
use Rattle.ir_items.specs.declared.functions.FunctionResult.{FunctionResult}
use Rattle.document_forms.specs.found.Exact.{FormOf}
use Rattle.document_forms.specs.found.Forms.{a_handle, a_text, maybe, a_list, an_array, made}
use Rattle.document_forms.specs.found.Rows.{row2, row3, row7}
use Rattle.document_items.specs.found.Types.{a_binding}
use Rattle.document_items.specs.found.Items.{a_stage, an_early, the_sizes, a_mesh}
use Rattle.document_expressions.specs.found.Expressions.{an_expression}
use Rattle.document_reader.specs.found.Statements.{a_body}
use Rattle.document_reader.specs.judged.FunctionForm.{AnArgument, AResult, ALocal, AFunction}
use Rattle.document_reader.specs.judged.EntryForm.{AnEntry}

abbrev pub an_argument : FormOf PlainArgument
an_argument = made (an_array (row3 (maybe a_text) a_handle (maybe a_binding))) (λ t. record { name = t.0; ty = t.1; binding = t.2 }) (λ a. (a.name, a.ty, a.binding)) AnArgument (λ a. refl) (λ t d h. h) (λ a d h. h)

abbrev pub a_result : FormOf FunctionResult
a_result = made (an_array (row2 a_handle (maybe a_binding))) (λ t. record { ty = t.0; binding = t.1 }) (λ r. (r.ty, r.binding)) AResult (λ r. refl) (λ t d h. h) (λ r d h. h)

abbrev pub a_local : FormOf PlainLocal
a_local = made (an_array (row3 (maybe a_text) a_handle (maybe a_handle))) (λ t. record { name = t.0; ty = t.1; init = t.2 }) (λ l. (l.name, l.ty, l.init)) ALocal (λ l. refl) (λ t d h. h) (λ l d h. h)

abbrev pub a_function : FormOf PlainFunction
a_function = made (an_array (row7 (maybe a_text) (a_list an_argument) (maybe a_result) (a_list a_local) (a_list an_expression) a_body (maybe a_handle))) (λ t. record { name = t.0; arguments = t.1; result = t.2; locals = t.3; expressions = t.4; body = t.5; leaf = t.6 }) (λ f. (f.name, f.arguments, f.result, f.locals, f.expressions, f.body, f.leaf)) AFunction (λ f. refl) (λ t d h. h) (λ f d h. h)

abbrev pub an_entry : FormOf PlainEntry
an_entry = made (an_array (row7 a_stage a_text (maybe an_early) the_sizes (maybe a_mesh) (maybe a_handle) a_function)) (λ t. record { stage = t.0; name = t.1; early = t.2; sizes = t.3; mesh = t.4; payload = t.5; function = t.6 }) (λ e. (e.stage, e.name, e.early, e.sizes, e.mesh, e.payload, e.function)) AnEntry (λ e. refl) (λ t d h. h) (λ e d h. h)
