-- An entry point is valid alike with other returns.
use Rattle.std.proofs.Common.{inl, inr, ℕ, true, Option, List, refl, sym, ap, subst, ◌∙◌}
use Rattle.std.specs.Prelude.{◌<◌, ◌-◌, ◌^◌, length}
use Rattle.ir_flags.proofs.SetLaws.{all_shader_stages}
use Rattle.ir_flags.specs.Sets.{Has}
use Rattle.ir_flags.specs.declared.settings.Capabilities.{Capabilities}
use Rattle.ir_flags.specs.declared.settings.ValidationFlags.{ValidationFlags}
use Rattle.ir_flags.specs.declared.stages.ShaderStages.{ShaderStages}
use Rattle.ir_flags.specs.declared.settings.Settings.{Settings}
use Rattle.ir_items.specs.judged.GlobalPlain.{PlainGlobal}
use Rattle.ir_items.specs.judged.Plain.{PlainFunction, PlainEntry, PlainModule}
use Rattle.ir_items.specs.declared.entries.MeshStageInfo.{MeshStageInfo}
use Rattle.ir_kinds.specs.declared.stages.ShaderStage.{ShaderStage}
use Rattle.ir_kinds.specs.declared.stages.ShaderStage.TheVariants.{Vertex, Fragment, Compute, Mesh, Task, RayGeneration, AnyHit, ClosestHit, Miss}
use Rattle.spec_expressions.specs.judged.CallChains.{HasUse}
use Rattle.spec_statements.specs.judged.ExpressionStages.{all_stages}
use Rattle.spec_statements.specs.judged.Functions.{AllowsStage}
use Rattle.spec_statements.specs.judged.ModuleFunctions.{reading_over}
use Rattle.spec_interface.specs.judged.Contexts.{stage_set}
use Rattle.spec_interface.specs.judged.Entries.{ConnectionsOK, EntryOK}
use Rattle.spec_interface.specs.judged.EarlierPayloads.{HasEntryPayload, HasPayloadSoFar, IsPayloadBeforeEntry}
use Rattle.spec_interface.specs.declared.parts.MeshParts.{MeshParts}
use Rattle.spec_interface.specs.judged.Meshes.{HasParts, ImpliesMeshInfo, IsSaid, MeshOK}
use Rattle.spec_interface.specs.found.Meshes.{without_overrides}
use Rattle.spec_interface.specs.judged.EntryNames.{IsConflict}
use Rattle.spec_interface.specs.judged.Modules.{AreStages, EntryAtOK, EntriesOK}
use Rattle.spec_interface.specs.judged.Payloads.{PayloadOK}
use Rattle.spec_interface.specs.judged.Stages.{StageOK}
use Rattle.spec_interface.specs.judged.Uses.{OwnUse, EntryUses}
use Rattle.spec_interface.specs.judged.UsedVariables.{OwnPayloadOK, UsedVariableOK, VariablesOK, IsUsed}
use Rattle.spec_statements.specs.judged.EarlierPayloads.{HasPayloadBefore}
use Rattle.judgement_laws.specs.judged.Like.{LikeEntry, LikeModule}
use Rattle.judgement_laws.proofs.Calls.{use_moves}
use Rattle.judgement_laws.proofs.Functions.{payload_like, payload_before, function_moves, stage_moves}
use Rattle.judgement_laws.proofs.Likeness.{function_back, entry_back, module_back, over_entry}
use Rattle.judgement_laws.proofs.Shared.{if_some_moves}
use Rattle.spec_expressions.specs.judged.Firsts.{FailsFirst}

-- ---- its interface to other stages and to the host

module _ (m : PlainModule) (functions : List PlainFunction) (entries : List PlainEntry) (x : PlainEntry) (f : PlainFunction) where
  abbrev n : PlainModule
  n = record m { functions = functions; entries = entries }

  abbrev y : PlainEntry
  y = record x { function = record x.function { body = f.body } }

  parts : (variable : ℕ) (t : MeshParts) → HasParts m variable t → HasParts n variable t
  parts variable t h = record { members = h.members; struct = h.struct; parts = h.parts }

  implied : (variable : ℕ) (i : MeshStageInfo) (vertices_by primitives_by : Option ℕ) → ImpliesMeshInfo m variable i vertices_by primitives_by → ImpliesMeshInfo n variable i vertices_by primitives_by
  implied variable i vertices_by primitives_by h = record {
    types = h.types;
    parts = parts variable h.types h.parts;
    fields = h.fields;
    topology = h.topology;
    held = h.held;
    vertices_unsaid = h.vertices_unsaid;
    primitives_unsaid = h.primitives_unsaid;
  }

  said : (i : MeshStageInfo) → IsSaid m i → IsSaid n i
  said i h = record {
    vertices_by = h.vertices_by;
    primitives_by = h.primitives_by;
    implied = implied i.output_variable (without_overrides i) h.vertices_by h.primitives_by h.implied;
    vertices = h.vertices;
    primitives = h.primitives;
  }

  mesh : (flags : ValidationFlags) (capabilities : Capabilities) (i : MeshStageInfo) → MeshOK flags capabilities m x i → MeshOK flags capabilities n y i
  mesh flags capabilities i h = record {
    lies = h.lies;
    said = said i h.said;
    points = h.points;
    vertex = record { struct = h.vertex.struct; given = h.vertex.given; position = h.vertex.position };
    primitive = record { struct = h.primitive.struct; given = h.primitive.given };
  }

  stage : (capabilities : Capabilities) → StageOK capabilities x → StageOK capabilities y
  stage capabilities h = record { needed = h.needed; early = h.early; sizes = h.sizes; mesh = h.mesh }

  payload : PayloadOK m x → PayloadOK n y
  payload h = record { handed = h.handed; stages = h.stages; lies = h.lies }

  own_payload : (g : ℕ) (v : PlainGlobal) → OwnPayloadOK m x g v → OwnPayloadOK n y g v
  own_payload g v h = record { own = h.own; bytes = h.bytes }

  module _ (Uses Others : ℕ → ℕ → Type 0) (back : (g k : ℕ) → Others g k → Uses g k) where
    variable : (g : ℕ) (v : PlainGlobal) → UsedVariableOK m x g v (Uses g) → UsedVariableOK n y g v (Others g)
    variable g v h = record { payload = λ space. own_payload g v (h.payload space); reached = h.reached; allowed = λ k used. h.allowed k (back g k used) }

    used_back : (g : ℕ) → IsUsed Others g → IsUsed Uses g
    used_back g used = (used.0, back g used.0 used.1)

    variables : (flags : ValidationFlags) → VariablesOK flags m x Uses → VariablesOK flags n y Others
    variables flags h = record {
      each = λ g v at used. variable g v (h.each g v at (used_back g used));
      immediate = λ g other used used_too. h.immediate g other (used_back g used) (used_back other used_too);
      bound = λ flag g other binding used used_too. h.bound flag g other binding (used_back g used) (used_back other used_too);
    }

    connections : (flags : ValidationFlags) (capabilities : Capabilities) → ConnectionsOK flags capabilities m x Uses → ConnectionsOK flags capabilities n y Others
    connections flags capabilities h = record {
      arguments = h.arguments;
      result = h.result;
      answer = h.answer;
      variables = variables flags h.variables;
      mesh = if_some_moves (MeshOK flags capabilities m x) (MeshOK flags capabilities n y) x.mesh (mesh flags capabilities) h.mesh;
    }

uses_move : {m n : PlainModule} {x y : PlainEntry} → LikeModule m n → LikeEntry x y → (g k : ℕ) → EntryUses x (HasUse m x.function) g k → EntryUses y (HasUse n y.function) g k
uses_move l k g bit (inl used) = inl (use_moves l k.function g bit used)
uses_move l k g bit (inr own) = inr (subst (λ z. OwnUse z g bit) (sym k.rest) own)

-- ---- which stages may run functions

stages_move : {m n : PlainModule} → LikeModule m n → (s : Settings) (stages : List ShaderStages) → AreStages s m stages → AreStages s n stages
stages_move l s stages h = record {
  many = h.many ∙ l.functions.many;
  each = λ index g own at at_own stage.
      (let f = l.functions.back index g at in
      let was = h.each index f.0 own f.1 at_own stage in (
        λ has. (let x = was.0 has in (x.0, stage_moves l f.2 s stages stages stage x.0 x.1)),
        λ x. was.1 (x.0, stage_moves (module_back l) (function_back f.2) s stages stages stage x.0 x.1),
      ));
}

among_nine : (stage : ShaderStage) → Has (2 ^ 9 - 1) (stage_set stage).0
among_nine Vertex = refl
among_nine Fragment = refl
among_nine Compute = refl
among_nine Mesh = refl
among_nine Task = refl
among_nine RayGeneration = refl
among_nine AnyHit = refl
among_nine ClosestHit = refl
among_nine Miss = refl

-- the stage of an entry point is one of all stages
among_all : (stage : ShaderStage) → Has all_stages.0 (stage_set stage).0
among_all stage = subst (λ bits. Has bits (stage_set stage).0) (sym all_shader_stages) (among_nine stage)

-- ---- the entry point

entry_moves : {m n : PlainModule} {x y : PlainEntry} → LikeModule m n → LikeEntry x y → (stages : List ShaderStages) (s : Settings) (held : Option ℕ)
    → EntryOK (reading_over stages m x.function) stages (HasUse m x.function) s held m x → EntryOK (reading_over stages n y.function) stages (HasUse n y.function) s held n y
entry_moves {m} {n} {x} {y} l k stages s held h = record {
  stage = over_entry (λ a z. StageOK s.capabilities z) l k (stage m n.functions n.entries x y.function s.capabilities h.stage);
  function = function_moves l k.function s true held stages h.function;
  payload = over_entry PayloadOK l k (payload m n.functions n.entries x y.function h.payload);
  runs = subst (λ (z : PlainEntry). AllowsStage (reading_over stages n y.function) s stages y.function (stage_set z.stage).0) (sym k.rest)
      (stage_moves l k.function s stages stages (stage_set x.stage).0 (among_all x.stage) h.runs);
  connections = over_entry (λ a z. ConnectionsOK s.flags s.capabilities a z (EntryUses y (HasUse n y.function))) l k
      (connections m n.functions n.entries x y.function (EntryUses x (HasUse m x.function)) (EntryUses y (HasUse n y.function)) (uses_move (module_back l) (entry_back k)) s.flags s.capabilities h.connections);
}

-- ---- all entry points of a module

conflict_moves : {m n : PlainModule} {x y : PlainEntry} → LikeModule m n → LikeEntry x y → (index : ℕ) → IsConflict m index x → IsConflict n index y
conflict_moves l k index h =
    let z = l.entries.there h.earlier h.other h.at in
    record {
      earlier = h.earlier;
      other = z.0;
      before = h.before;
      at = z.1;
      stage = ap (λ (e : PlainEntry). e.stage) z.2.rest ∙ (h.stage ∙ sym (ap (λ (e : PlainEntry). e.stage) k.rest));
      name = ap (λ (e : PlainEntry). e.name) z.2.rest ∙ (h.name ∙ sym (ap (λ (e : PlainEntry). e.name) k.rest));
    }

entry_payload : {m n : PlainModule} → LikeModule m n → (count type : ℕ) → HasEntryPayload m count type → HasEntryPayload n count type
entry_payload l count type h =
    let y = l.entries.there h.index h.entry h.at in
    record { index = h.index; entry = y.0; before = h.before; at = y.1; traced = payload_like l y.2.function type h.traced }

payload_so_far : {m n : PlainModule} → LikeModule m n → (count type : ℕ) → HasPayloadSoFar m count type → HasPayloadSoFar n count type
payload_so_far {m} {n} l count type (inl h) = inl (subst (λ k. HasPayloadBefore n k type) l.functions.many (payload_before l (length m.functions) type h))
payload_so_far l count type (inr h) = inr (entry_payload l count type h)

held_moves : {m n : PlainModule} → LikeModule m n → (flags : ValidationFlags) (count : ℕ) (held : Option ℕ) → IsPayloadBeforeEntry flags m count held → IsPayloadBeforeEntry flags n count held
held_moves l flags count held h = record {
  some = λ type flag x. h.some type flag (payload_so_far (module_back l) count type x);
  none = λ no. h.none (λ type flag x. no type flag (payload_so_far l count type x));
}

entry_at_moves : {m n : PlainModule} → LikeModule m n → (s : Settings) (i : ℕ) → EntryAtOK s m i → EntryAtOK s n i
entry_at_moves l s i h =
    let y = l.entries.there i h.entry h.at in
    record {
      entry = y.0;
      at = y.1;
      held = h.held;
      before = held_moves l s.flags i h.held h.before;
      stages = h.stages;
      run = stages_move l s h.stages h.run;
      apart = λ conflict. h.apart (conflict_moves (module_back l) (entry_back y.2) i conflict);
      ok = entry_moves l y.2 h.stages s h.held h.ok;
    }

pub entries_move : {m n : PlainModule} → LikeModule m n → (s : Settings) → EntriesOK s m → EntriesOK s n
entries_move l s h i within = entry_at_moves l s i (h i (subst (λ k. i < k) (sym l.entries.many) within))

pub first_entry_moves : {m n : PlainModule} → LikeModule m n → (s : Settings) (i : ℕ) → FailsFirst (length m.entries) (EntryAtOK s m) i → FailsFirst (length n.entries) (EntryAtOK s n) i
first_entry_moves l s i h = record {
  within = subst (λ k. i < k) l.entries.many h.within;
  before = λ earlier less. entry_at_moves l s earlier (h.before earlier less);
  fails = λ ok. h.fails (entry_at_moves (module_back l) s i ok);
}
