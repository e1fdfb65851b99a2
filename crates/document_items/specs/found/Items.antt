-- Decoding functions of the other items, which agree with the encoding relations.
use Rattle.std.specs.Prelude.{◌≡◌, ◌≤◌, ℕ, List, [], ◌∷◌, Option, Some, option_map, codes, refl}
use Rattle.std.proofs.Common.{subst, ap}
use Rattle.serde_json.specs.Data.{Data, array, Items, depth}
use Rattle.ir_kinds.specs.declared.stages.ShaderStage.{ShaderStage}
use Rattle.ir_kinds.specs.declared.stages.EarlyDepthTest.{EarlyDepthTest}
use Rattle.ir_kinds.specs.declared.stages.EarlyDepthTest.TheVariants as early
use Rattle.ir_items.specs.declared.entries.MeshStageInfo.{MeshStageInfo}
use Rattle.ir_items.specs.judged.GlobalPlain.{PlainConstant, PlainOverride, PlainGlobal, PlainRule, standard, unknown, user, PlainFilterNode}
use Rattle.document_words.specs.Unions.{decoration_union}
use Rattle.document_words.specs.Tables.{severities, standard_rules, conservative_depths, topologies, entry_stages, memory_decorations}
use Rattle.document_forms.specs.found.Exact.{deepest, IsExact, FormOf}
use Rattle.document_forms.specs.judged.Form.{AHandle, Maybe, AnArray, AList, Ends, ◌▸◌}
use Rattle.document_forms.specs.found.Decide.{tagged_of}
use Rattle.document_forms.specs.found.Inverse.{map_some}
use Rattle.document_forms.specs.found.KindLaws.{AreSound, kind_sound, tagged_complete}
use Rattle.document_forms.specs.found.Forms.{a_u16, a_handle, a_u32, a_text, a_word, a_set, maybe, a_list, ends, an_array, made, by_kind}
use Rattle.document_forms.specs.found.Rows.{row1, row2, row3, row4, row6, row8}
use Rattle.document_items.specs.found.Types.{a_space, a_resource}
use Rattle.document_items.specs.found.Kinds.{rule_kinds, early_kinds}
use Rattle.document_items.specs.judged.ItemForm.{AConstant, AnOverride, AGlobal, ARule, AFilter, AnEarlyDepthTest, TheSizes, AMesh}
use Rattle.document_items.specs.declared.kinds.RuleKind.{RuleKind}
use Rattle.document_items.specs.declared.kinds.RuleKind.TheVariants as rule_kind
use Rattle.document_items.specs.declared.kinds.EarlyKind.{EarlyKind}
use Rattle.document_items.specs.declared.kinds.EarlyKind.TheVariants as early_kind

-- ---- constants, overrides and global variables

abbrev pub a_constant : FormOf PlainConstant
a_constant = made (an_array (row3 (maybe a_text) a_handle a_handle)) (λ t. record { name = t.0; ty = t.1; init = t.2 }) (λ c. (c.name, c.ty, c.init)) AConstant (λ c. refl) (λ t d h. h) (λ c d h. h)

abbrev pub an_override : FormOf PlainOverride
an_override = made (an_array (row4 (maybe a_text) (maybe a_u16) a_handle (maybe a_handle))) (λ t. record { name = t.0; id = t.1; ty = t.2; init = t.3 }) (λ o. (o.name, o.id, o.ty, o.init)) AnOverride (λ o. refl) (λ t d h. h) (λ o d h. h)

abbrev pub a_global : FormOf PlainGlobal
a_global = made (an_array (row6 (maybe a_text) a_space (maybe a_resource) a_handle (maybe a_handle) (a_set memory_decorations (record { 0 = 0 }) decoration_union))) (λ t. record { name = t.0; space = t.1; binding = t.2; ty = t.3; init = t.4; decorations = t.5 }) (λ g. (g.name, g.space, g.binding, g.ty, g.init, g.decorations)) AGlobal (λ g. refl) (λ t d h. h) (λ g d h. h)

-- ---- diagnostic filters

unfoldable pub rule_with : RuleKind → Items → Option PlainRule
rule_with rule_kind.Standard ds = option_map (λ t. standard t) ((row1 (a_word standard_rules)).find ds)
rule_with rule_kind.Unknown ds = option_map (λ t. unknown t) ((row1 a_text).find ds)
rule_with rule_kind.User ds = option_map (λ t. user t.0 t.1) ((row2 a_text a_text).find ds)

pub rule_sound : AreSound rule_with (λ x ds. ARule x (array ds)) rule_kinds
unfolding rule_with ARule
rule_sound = (
  kind_sound (row1 (a_word standard_rules)) (λ t. standard t) (codes "Standard") (λ x ds. ARule x (array ds)) (λ t ds h. (refl, h)),
  (
    kind_sound (row1 a_text) (λ t. unknown t) (codes "Unknown") (λ x ds. ARule x (array ds)) (λ t ds h. (refl, h)),
    (
      kind_sound (row2 a_text a_text) (λ t. user t.0 t.1) (codes "User") (λ x ds. ARule x (array ds)) (λ t ds h. (refl, h)),
      tt,
    ),
  ),
)

pub rule_complete : (x : PlainRule) → (d : Data) → ARule x d → depth d ≤ deepest → tagged_of rule_kinds rule_with d ≡ Some x
unfolding rule_with ARule
rule_complete (standard rule) = tagged_complete rule_kinds rule_with (row1 (a_word standard_rules)) (λ t. standard t) (codes "Standard") rule_kind.Standard refl (λ ds. refl) rule
rule_complete (unknown name) = tagged_complete rule_kinds rule_with (row1 a_text) (λ t. unknown t) (codes "Unknown") rule_kind.Unknown refl (λ ds. refl) name
rule_complete (user tool name) = tagged_complete rule_kinds rule_with (row2 a_text a_text) (λ t. user t.0 t.1) (codes "User") rule_kind.User refl (λ ds. refl) (tool, name)

abbrev pub a_rule : FormOf PlainRule
a_rule = by_kind rule_kinds rule_with ARule rule_sound rule_complete

abbrev pub a_filter : FormOf PlainFilterNode
a_filter = made (an_array (row3 (a_word severities) a_rule (maybe a_handle))) (λ t. record { severity = t.0; rule = t.1; parent = t.2 }) (λ n. (n.severity, n.rule, n.parent)) AFilter (λ n. refl) (λ t d h. h) (λ n d h. h)

-- the filters, with the innermost filter of the module
abbrev pub AllFilters : List PlainFilterNode × Option ℕ → Data → Type 0
AllFilters t = AnArray (AList AFilter t.0 ▸ Maybe AHandle t.1 ▸ Ends)

abbrev pub the_filters : FormOf (List PlainFilterNode × Option ℕ)
the_filters = made (an_array (row2 (a_list a_filter) (maybe a_handle))) (λ t. t) (λ t. t) AllFilters (λ t. refl) (λ t d h. h) (λ t d h. h)

-- ---- what an entry point has besides its function

abbrev pub a_stage : FormOf ShaderStage
a_stage = a_word entry_stages

unfoldable pub early_with : EarlyKind → Items → Option EarlyDepthTest
early_with early_kind.Force ds = option_map (λ t. early.Force) (ends.find ds)
early_with early_kind.Allow ds = option_map early.Allow ((row1 (a_word conservative_depths)).find ds)

pub early_sound : AreSound early_with (λ x ds. AnEarlyDepthTest x (array ds)) early_kinds
unfolding early_with AnEarlyDepthTest
early_sound = (
  kind_sound ends (λ t. early.Force) (codes "Force") (λ x ds. AnEarlyDepthTest x (array ds)) (λ t ds h. (refl, h)),
  (
    kind_sound (row1 (a_word conservative_depths)) early.Allow (codes "Allow") (λ x ds. AnEarlyDepthTest x (array ds)) (λ t ds h. (refl, h)),
    tt,
  ),
)

pub early_complete : (x : EarlyDepthTest) → (d : Data) → AnEarlyDepthTest x d → depth d ≤ deepest → tagged_of early_kinds early_with d ≡ Some x
unfolding early_with AnEarlyDepthTest
early_complete early.Force = tagged_complete early_kinds early_with ends (λ t. early.Force) (codes "Force") early_kind.Force refl (λ ds. refl) tt
early_complete (early.Allow conservative) = tagged_complete early_kinds early_with (row1 (a_word conservative_depths)) early.Allow (codes "Allow") early_kind.Allow refl (λ ds. refl) conservative

abbrev pub an_early : FormOf EarlyDepthTest
an_early = by_kind early_kinds early_with AnEarlyDepthTest early_sound early_complete

-- the numbers as a list
abbrev pub size_list : ℕ × ℕ × ℕ → List ℕ
size_list t = t.0 ∷ t.1 ∷ t.2 ∷ []

abbrev pub three_sizes : FormOf (ℕ × ℕ × ℕ)
three_sizes = an_array (row3 a_u32 a_u32 a_u32)

pub sizes_exact : IsExact (λ d. option_map size_list (three_sizes.find d)) TheSizes
sizes_exact = record { sound = found; complete = there }
  where
    found : (d : Data) (x : List ℕ) → option_map size_list (three_sizes.find d) ≡ Some x → TheSizes x d
    found d x e =
        let a = map_some size_list (three_sizes.find d) x e in
        subst (λ y. TheSizes y d) a.2 (three_sizes.exact.sound d a.0 a.1)

    there : (d : Data) (x : List ℕ) → TheSizes x d → depth d ≤ deepest → option_map size_list (three_sizes.find d) ≡ Some x
    there d [] h le = absurd h
    there d (x ∷ []) h le = absurd h
    there d (x ∷ y ∷ []) h le = absurd h
    there d (x ∷ y ∷ z ∷ []) h le = ap (option_map size_list) (three_sizes.exact.complete d (x, y, z) h le)
    there d (x ∷ y ∷ z ∷ w ∷ ws) h le = absurd h

abbrev pub the_sizes : FormOf (List ℕ)
the_sizes = record { find = λ d. option_map size_list (three_sizes.find d); Written = TheSizes; exact = sizes_exact }

abbrev pub a_mesh : FormOf MeshStageInfo
a_mesh = made (an_array (row8 (a_word topologies) a_u32 (maybe a_handle) a_u32 (maybe a_handle) a_handle a_handle a_handle)) (λ t. record { topology = t.0; max_vertices = t.1; max_vertices_override = t.2; max_primitives = t.3; max_primitives_override = t.4; vertex_output_type = t.5; primitive_output_type = t.6; output_variable = t.7 }) (λ m. (m.topology, m.max_vertices, m.max_vertices_override, m.max_primitives, m.max_primitives_override, m.vertex_output_type, m.primitive_output_type, m.output_variable)) AMesh (λ m. refl) (λ t d h. h) (λ m d h. h)
