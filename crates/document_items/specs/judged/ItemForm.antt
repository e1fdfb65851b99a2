-- The encoding relations of a document's items other than types, expressions, statements and functions.
use Rattle.std.specs.Prelude.{◌≢◌, ℕ, List, [], ◌∷◌, AllPairs}
use Rattle.std.specs.Map.{keys_of}
use Rattle.std.specs.Int.RustNames.{bit_or}
use Rattle.serde_json.specs.Data.{Data}
use Rattle.ir_kinds.specs.declared.predeclared.PredeclaredType.{PredeclaredType}
use Rattle.ir_kinds.specs.declared.predeclared.PredeclaredType.TheVariants as predeclared_types
use Rattle.ir_kinds.specs.declared.stages.EarlyDepthTest.{EarlyDepthTest}
use Rattle.ir_kinds.specs.declared.stages.EarlyDepthTest.TheVariants as early
use Rattle.ir_items.specs.declared.entries.MeshStageInfo.{MeshStageInfo}
use Rattle.ir_items.specs.judged.GlobalPlain.{PlainConstant, PlainOverride, PlainGlobal, PlainRule, standard, unknown, user, PlainFilterNode, PlainSpecialTypes}
use Rattle.document_words.specs.Tables.{scalars, severities, standard_rules, conservative_depths, topologies, memory_decorations}
use Rattle.document_forms.specs.judged.Form.{ANumber, AHandle, AU32, AVectorSize, AText, AWord, ASet, Maybe, AnArray, AList, Ends, ◌▸◌, ◌with◌}
use Rattle.document_forms.specs.declared.limits.TheConstants.{MAX_U16}
use Rattle.document_items.specs.judged.Form.{ASpace, AResource}

-- ---- constants, overrides and global variables

abbrev pub AConstant : PlainConstant → Data → Type 0
AConstant c = AnArray (Maybe AText c.name ▸ AHandle c.ty ▸ AHandle c.init ▸ Ends)

-- an override, with its pipeline constant ID
abbrev pub AnOverride : PlainOverride → Data → Type 0
AnOverride o = AnArray (Maybe AText o.name ▸ Maybe (ANumber MAX_U16) o.id ▸ AHandle o.ty ▸ Maybe AHandle o.init ▸ Ends)

abbrev pub AGlobal : PlainGlobal → Data → Type 0
AGlobal g = AnArray (Maybe AText g.name ▸ ASpace g.space ▸ Maybe AResource g.binding ▸ AHandle g.ty ▸ Maybe AHandle g.init ▸
    ASet memory_decorations (record { 0 = 0 }) (λ a b. record { 0 = bit_or a.0 b.0 }) g.decorations ▸ Ends)

-- ---- diagnostic filters

unfoldable pub ARule : PlainRule → Data → Type 0
ARule (standard rule) = "Standard" with AWord standard_rules rule ▸ Ends
ARule (unknown name) = "Unknown" with AText name ▸ Ends
ARule (user tool name) = "User" with AText tool ▸ AText name ▸ Ends

abbrev pub AFilter : PlainFilterNode → Data → Type 0
AFilter n = AnArray (AWord severities n.severity ▸ ARule n.rule ▸ Maybe AHandle n.parent ▸ Ends)

-- ---- special types

unfoldable pub APredeclared : PredeclaredType → Data → Type 0
APredeclared (predeclared_types.AtomicCompareExchangeWeakResult scalar) = "AtomicCompareExchangeWeakResult" with AWord scalars scalar ▸ Ends
APredeclared (predeclared_types.ModfResult size scalar) = "ModfResult" with Maybe AVectorSize size ▸ AWord scalars scalar ▸ Ends
APredeclared (predeclared_types.FrexpResult size scalar) = "FrexpResult" with Maybe AVectorSize size ▸ AWord scalars scalar ▸ Ends

-- a predeclared type, and the handle of that type in the module
abbrev pub APair : PredeclaredType × ℕ → Data → Type 0
APair e = AnArray (APredeclared e.0 ▸ AHandle e.1 ▸ Ends)

-- pairs with distinct predeclared types
abbrev pub ThePairs : List (PredeclaredType × ℕ) → Data → Type 0
ThePairs es d = AList APair es d × AllPairs (λ k l. k ≢ l) (keys_of es)

abbrev pub ASpecial : PlainSpecialTypes → Data → Type 0
ASpecial s = AnArray (Maybe AHandle s.ray_desc ▸ Maybe AHandle s.ray_intersection ▸ Maybe AHandle s.ray_vertex_return ▸ ThePairs s.predeclared ▸ Ends)

-- ---- what an entry point has besides its function

unfoldable pub AnEarlyDepthTest : EarlyDepthTest → Data → Type 0
AnEarlyDepthTest early.Force = "Force" with Ends
AnEarlyDepthTest (early.Allow conservative) = "Allow" with AWord conservative_depths conservative ▸ Ends

-- the workgroup size in three dimensions
abbrev pub TheSizes : List ℕ → Data → Type 0
TheSizes (x ∷ y ∷ z ∷ []) = AnArray (AU32 x ▸ AU32 y ▸ AU32 z ▸ Ends)
TheSizes _ = λ d. ⊥

abbrev pub AMesh : MeshStageInfo → Data → Type 0
AMesh m = AnArray (AWord topologies m.topology ▸ AU32 m.max_vertices ▸ Maybe AHandle m.max_vertices_override ▸ AU32 m.max_primitives ▸
    Maybe AHandle m.max_primitives_override ▸ AHandle m.vertex_output_type ▸ AHandle m.primitive_output_type ▸ AHandle m.output_variable ▸ Ends)
