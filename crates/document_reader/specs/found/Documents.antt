-- Decoding functions of documents, which agree with the encoding relation.
use Rattle.std.specs.Prelude.{◌≡◌, ℕ, Bool, List, Option, Some, None, ◌==◌, nat_eq, if◌then◌else◌, refl}
use borrow.Author.Tests.{eqb-true}
use Rattle.std.proofs.Common.{ap, ◌∙◌}
use Rattle.serde_json.specs.Data.{Data, Items, number, unsigned}
use Rattle.serde_json.specs.Find.{as_array, as_bool}
use Rattle.ir_flags.specs.declared.settings.ValidationFlags.{ValidationFlags}
use Rattle.ir_flags.specs.declared.settings.Capabilities.{Capabilities}
use Rattle.ir_flags.specs.declared.stages.ShaderStages.{ShaderStages}
use Rattle.ir_flags.specs.declared.stages.SubgroupOperationSet.{SubgroupOperationSet}
use Rattle.ir_flags.specs.declared.settings.Settings.{Settings}
use Rattle.ir_types.specs.judged.Plain.{PlainType}
use Rattle.ir_types.specs.judged.ExpressionPlain.{PlainExpression}
use Rattle.ir_items.specs.judged.GlobalPlain.{PlainConstant, PlainOverride, PlainGlobal, PlainFilterNode, PlainSpecialTypes}
use Rattle.ir_items.specs.judged.Plain.{PlainFunction, PlainEntry, PlainModule}
use Rattle.document_words.specs.Tables.{flags, capabilities, stages, operations}
use Rattle.document_words.specs.Unions.{flag_union, capability_union, stage_union, operation_union}
use Rattle.document_forms.specs.found.Exact.{IsExact, FormOf, RowOf}
use Rattle.document_forms.specs.found.Decide.{◌>>=◌, whole_of, first, all_of}
use Rattle.document_forms.specs.found.Inverse.{bind_some, guarded, whole_some}
use Rattle.document_forms.specs.found.Forms.{a_bool, a_handle, a_set, maybe, a_list, ◌▹◌, an_array, made}
use Rattle.document_forms.specs.found.Rows.{row2, row8}
use Rattle.document_items.specs.found.Types.{a_type}
use Rattle.document_items.specs.found.Items.{a_constant, an_override, a_global, a_filter}
use Rattle.document_items.specs.found.Special.{the_special}
use Rattle.document_expressions.specs.found.Expressions.{an_expression}
use Rattle.document_reader.specs.found.Functions.{a_function, an_entry}
use Rattle.document_reader.specs.judged.Plain.{PlainDocument}
use Rattle.document_reader.specs.judged.Form.{ADocument}

-- ---- the version of the format

abbrev pub IsVersion : Data → Type 0
IsVersion d = d ≡ number (unsigned 1)

abbrev pub version_of : Data → Option (Unit {0})
version_of d = do
  n ← whole_of d
  if n == 1 then Some tt else None

pub version_exact : IsExact version_of (λ x. IsVersion)
version_exact = record { sound = found; complete = λ d x h le. rw h refl }
  where
    found : (d : Data) (x : Unit {0}) → version_of d ≡ Some x → IsVersion d
    found d x e =
        let a = bind_some _ (whole_of d) x e in
        let g = guarded (nat_eq a.0 1) (Some tt) x a.2 in
        whole_some d a.0 a.1 ∙ ap (λ n. number (unsigned n)) (eqb-true a.0 1 g.0)

abbrev pub a_version : FormOf (Unit {0})
a_version = record { find = version_of; Written = λ x. IsVersion; exact = version_exact }

-- ---- the settings

abbrev pub the_flags : FormOf ValidationFlags
the_flags = a_set flags (record { 0 = 0 }) flag_union

abbrev pub the_capabilities : FormOf Capabilities
the_capabilities = a_set capabilities (record { 0 = 0 }) capability_union

abbrev pub the_subgroups : FormOf (ShaderStages × SubgroupOperationSet)
the_subgroups = an_array (row2 (a_set stages (record { 0 = 0 }) stage_union) (a_set operations (record { 0 = 0 }) operation_union))

-- ---- the lists after the types

abbrev pub ListParts : Type 0
ListParts = PlainSpecialTypes × (List PlainFilterNode × Option ℕ) × List PlainConstant × List PlainOverride × List PlainExpression × List PlainGlobal × List PlainFunction × List PlainEntry

abbrev pub the_lists : RowOf ListParts
the_lists = row8 the_special (an_array (row2 (a_list a_filter) (maybe a_handle))) (a_list a_constant) (a_list an_override) (a_list an_expression) (a_list a_global) (a_list a_function) (a_list an_entry)

-- the module of these types and lists
abbrev pub content_of : List PlainType → ListParts → PlainModule
content_of types t = record { types = types; special = t.0; filters = t.1.0; leaf = t.1.1; constants = t.2; overrides = t.3; global_expressions = t.4; globals = t.5; functions = t.6; entries = t.7 }

abbrev pub lists_of : PlainModule → ListParts
lists_of m = (m.special, (m.filters, m.leaf), m.constants, m.overrides, m.global_expressions, m.globals, m.functions, m.entries)

-- ---- the whole

abbrev pub Parts : Type 0
Parts = Unit {0} × (ValidationFlags × (Capabilities × ((ShaderStages × SubgroupOperationSet) × (Bool × (List PlainType × ListParts)))))

abbrev pub the_parts : RowOf Parts
the_parts = a_version ▹ the_flags ▹ the_capabilities ▹ the_subgroups ▹ a_bool ▹ a_list a_type ▹ the_lists

abbrev pub settings_of : ValidationFlags → Capabilities → ShaderStages × SubgroupOperationSet → Settings
settings_of checks uses subgroups = record { flags = checks; capabilities = uses; subgroup_stages = subgroups.0; subgroup_operations = subgroups.1 }

abbrev pub made_of : ValidationFlags → Capabilities → ShaderStages × SubgroupOperationSet → Bool → PlainModule → PlainDocument
made_of checks uses subgroups returns content = record { settings = settings_of checks uses subgroups; returns = returns; content = content }

abbrev pub document_made : Parts → PlainDocument
document_made t = made_of t.1.0 t.1.1.0 t.1.1.1.0 t.1.1.1.1.0 (content_of t.1.1.1.1.1.0 t.1.1.1.1.1.1)

abbrev pub parts_of : PlainDocument → Parts
parts_of d = (tt, (d.settings.flags, (d.settings.capabilities, ((d.settings.subgroup_stages, d.settings.subgroup_operations), (d.returns, (d.content.types, lists_of d.content))))))

-- the document that a value encodes, except that its types may repeat
abbrev pub a_document : FormOf PlainDocument
a_document = made (an_array the_parts) document_made parts_of ADocument (λ d. refl) (λ t d h. h) (λ x d h. h)

-- ---- the same, decoded element by element

-- the first element decoded, and the elements after it
abbrev pub first_part : {A : Type 0} → (Data → Option A) → Items → Option (A × Items)
first_part f ds = do
  t ← first ds
  x ← f t.0
  Some (x, t.1)

-- the module, from the elements after the settings
abbrev pub content_in : Items → Option PlainModule
content_in ds = do
  t ← first ds
  types ← all_of a_type.find t.0
  lists ← the_lists.find t.1
  Some (content_of types lists)

abbrev pub parts_in : Items → Option PlainDocument
parts_in ds = do
  v ← first_part version_of ds
  f ← first_part the_flags.find v.1
  c ← first_part the_capabilities.find f.1
  s ← first_part the_subgroups.find c.1
  r ← first_part as_bool s.1
  m ← content_in r.1
  Some (made_of f.0 c.0 s.0 r.0 m)

abbrev pub document_in : Data → Option PlainDocument
document_in d = as_array d >>= parts_in
