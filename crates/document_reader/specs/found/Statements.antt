-- Decoding functions of statements, which agree with the encoding relations.
use Rattle.std.specs.Prelude.{◌≡◌, ◌≤◌, ℕ, zero, suc, Bool, List, [], ◌∷◌, Option, Some, None, option_map, codes, refl}
use Rattle.std.proofs.Common.{ap, subst, ◌∙◌, arith}
use Rattle.serde_json.specs.Data.{Data, null, boolean, number, string, array, object, Items, no_items, item, depth, items_depth}
use Rattle.ir_blocks.specs.found.View.{PlainCase, block_of, cases_of}
use Rattle.ir_kinds.specs.declared.values.SwitchValue.{SwitchValue}
use Rattle.ir_kinds.specs.declared.values.SwitchValue.TheVariants as switch_values
use Rattle.ir_blocks.specs.declared.operations.AtomicFunction.{AtomicFunction}
use Rattle.ir_blocks.specs.declared.operations.AtomicFunction.TheVariants as atomic_functions
use Rattle.ir_blocks.specs.declared.operations.GatherMode.{GatherMode}
use Rattle.ir_blocks.specs.declared.operations.GatherMode.TheVariants as gather_modes
use Rattle.ir_blocks.specs.declared.operations.RayQueryFunction.{RayQueryFunction}
use Rattle.ir_blocks.specs.declared.operations.RayQueryFunction.TheVariants as query_functions
use Rattle.ir_blocks.specs.declared.operations.RayPipelineFunction.{RayPipelineFunction}
use Rattle.ir_blocks.specs.declared.operations.RayPipelineFunction.TheVariants as pipeline_functions
use Rattle.ir_blocks.specs.judged.Plain.{control_barrier, memory_barrier, store, image_store, atomic, image_atomic, uniform_load, ray_query, ballot, collective, gather, cooperative_store, ray_pipeline, PlainStatement, emit, block, if_, switch, loop, break, continue, return, kill, operation, call, PlainBlock, stop, next, PlainCases, no_case, case}
use Rattle.document_words.specs.Unions.{barrier_union}
use Rattle.document_words.specs.Tables.{barriers, subgroup_operations, collective_operations, directions}
use Rattle.document_forms.specs.found.Exact.{deepest, IsExact, FormOf}
use Rattle.document_forms.specs.judged.Form.{ABool, AnArray, EachOf, Ends, ◌▸◌}
use Rattle.document_forms.specs.found.Decide.{each, all_of, tagged_of}
use Rattle.document_forms.specs.found.Inverse.{map_some}
use Rattle.document_forms.specs.found.KindLaws.{Tagged, AreSound, kind_sound, tagged_complete, tagged_sound}
use Rattle.document_forms.specs.found.Forms.{a_i32, a_handle, a_u32, a_bool, a_word, a_set, maybe, a_list, ends, an_array, by_kind}
use Rattle.document_forms.specs.found.Rows.{row1, row2, row3, row4, row5}
use Rattle.document_reader.specs.judged.StatementForm.{ASwitchValue, AnAtomicFunction, AGatherMode, ARayQueryFunction, ARayPipelineFunction, AnOperation, AStatement, TheStatements, TheCases}
use Rattle.document_reader.specs.found.Kinds.{value_kinds, atomic_kinds, gather_kinds, ray_query_kinds, pipeline_kinds, statement_kinds}
use Rattle.document_reader.specs.declared.kinds.ValueKind.{ValueKind}
use Rattle.document_reader.specs.declared.kinds.ValueKind.TheVariants as value_kind
use Rattle.document_reader.specs.declared.kinds.AtomicKind.{AtomicKind}
use Rattle.document_reader.specs.declared.kinds.AtomicKind.TheVariants as atomic_kind
use Rattle.document_reader.specs.declared.kinds.GatherKind.{GatherKind}
use Rattle.document_reader.specs.declared.kinds.GatherKind.TheVariants as gather_kind
use Rattle.document_reader.specs.declared.kinds.RayQueryKind.{RayQueryKind}
use Rattle.document_reader.specs.declared.kinds.RayQueryKind.TheVariants as ray_query_kind
use Rattle.document_reader.specs.declared.kinds.PipelineKind.{PipelineKind}
use Rattle.document_reader.specs.declared.kinds.PipelineKind.TheVariants as pipeline_kind
use Rattle.document_reader.specs.declared.kinds.StatementKind.{StatementKind}
use Rattle.document_reader.specs.declared.kinds.StatementKind.TheVariants as statement_kind

-- ---- the tagged parts of statements

unfoldable pub value_with : ValueKind → Items → Option SwitchValue
value_with value_kind.I32 ds = option_map (λ t. switch_values.I32 t) ((row1 a_i32).find ds)
value_with value_kind.U32 ds = option_map (λ t. switch_values.U32 t) ((row1 a_u32).find ds)
value_with value_kind.Default ds = option_map (λ t. switch_values.Default) (ends.find ds)

pub value_sound : AreSound value_with (λ x ds. ASwitchValue x (array ds)) value_kinds
unfolding value_with ASwitchValue
value_sound = (
  kind_sound (row1 a_i32) (λ t. switch_values.I32 t) (codes "I32") (λ x ds. ASwitchValue x (array ds)) (λ t ds h. (refl, h)),
  (
    kind_sound (row1 a_u32) (λ t. switch_values.U32 t) (codes "U32") (λ x ds. ASwitchValue x (array ds)) (λ t ds h. (refl, h)),
    (
      kind_sound ends (λ t. switch_values.Default) (codes "Default") (λ x ds. ASwitchValue x (array ds)) (λ t ds h. (refl, h)),
      tt,
    ),
  ),
)

pub value_complete : (x : SwitchValue) → (d : Data) → ASwitchValue x d → depth d ≤ deepest → tagged_of value_kinds value_with d ≡ Some x
unfolding value_with ASwitchValue
value_complete (switch_values.I32 a) = tagged_complete value_kinds value_with (row1 a_i32) (λ t. switch_values.I32 t) (codes "I32") value_kind.I32 refl (λ ds. refl) a
value_complete (switch_values.U32 a) = tagged_complete value_kinds value_with (row1 a_u32) (λ t. switch_values.U32 t) (codes "U32") value_kind.U32 refl (λ ds. refl) a
value_complete switch_values.Default = tagged_complete value_kinds value_with ends (λ t. switch_values.Default) (codes "Default") value_kind.Default refl (λ ds. refl) tt

abbrev pub a_value : FormOf SwitchValue
a_value = by_kind value_kinds value_with ASwitchValue value_sound value_complete

unfoldable pub atomic_with : AtomicKind → Items → Option AtomicFunction
atomic_with atomic_kind.Add ds = option_map (λ t. atomic_functions.Add) (ends.find ds)
atomic_with atomic_kind.Subtract ds = option_map (λ t. atomic_functions.Subtract) (ends.find ds)
atomic_with atomic_kind.And ds = option_map (λ t. atomic_functions.And) (ends.find ds)
atomic_with atomic_kind.ExclusiveOr ds = option_map (λ t. atomic_functions.ExclusiveOr) (ends.find ds)
atomic_with atomic_kind.InclusiveOr ds = option_map (λ t. atomic_functions.InclusiveOr) (ends.find ds)
atomic_with atomic_kind.Min ds = option_map (λ t. atomic_functions.Min) (ends.find ds)
atomic_with atomic_kind.Max ds = option_map (λ t. atomic_functions.Max) (ends.find ds)
atomic_with atomic_kind.Exchange ds = option_map (λ t. atomic_functions.Exchange t) ((row1 (maybe a_handle)).find ds)

pub atomic_sound : AreSound atomic_with (λ x ds. AnAtomicFunction x (array ds)) atomic_kinds
unfolding atomic_with AnAtomicFunction
atomic_sound = (
  kind_sound ends (λ t. atomic_functions.Add) (codes "Add") (λ x ds. AnAtomicFunction x (array ds)) (λ t ds h. (refl, h)),
  (
    kind_sound ends (λ t. atomic_functions.Subtract) (codes "Subtract") (λ x ds. AnAtomicFunction x (array ds)) (λ t ds h. (refl, h)),
    (
      kind_sound ends (λ t. atomic_functions.And) (codes "And") (λ x ds. AnAtomicFunction x (array ds)) (λ t ds h. (refl, h)),
      (
        kind_sound ends (λ t. atomic_functions.ExclusiveOr) (codes "ExclusiveOr") (λ x ds. AnAtomicFunction x (array ds)) (λ t ds h. (refl, h)),
        (
          kind_sound ends (λ t. atomic_functions.InclusiveOr) (codes "InclusiveOr") (λ x ds. AnAtomicFunction x (array ds)) (λ t ds h. (refl, h)),
          (
            kind_sound ends (λ t. atomic_functions.Min) (codes "Min") (λ x ds. AnAtomicFunction x (array ds)) (λ t ds h. (refl, h)),
            (
              kind_sound ends (λ t. atomic_functions.Max) (codes "Max") (λ x ds. AnAtomicFunction x (array ds)) (λ t ds h. (refl, h)),
              (
                kind_sound (row1 (maybe a_handle)) (λ t. atomic_functions.Exchange t) (codes "Exchange") (λ x ds. AnAtomicFunction x (array ds)) (λ t ds h. (refl, h)),
                tt,
              ),
            ),
          ),
        ),
      ),
    ),
  ),
)

pub atomic_complete : (x : AtomicFunction) → (d : Data) → AnAtomicFunction x d → depth d ≤ deepest → tagged_of atomic_kinds atomic_with d ≡ Some x
unfolding atomic_with AnAtomicFunction
atomic_complete atomic_functions.Add = tagged_complete atomic_kinds atomic_with ends (λ t. atomic_functions.Add) (codes "Add") atomic_kind.Add refl (λ ds. refl) tt
atomic_complete atomic_functions.Subtract = tagged_complete atomic_kinds atomic_with ends (λ t. atomic_functions.Subtract) (codes "Subtract") atomic_kind.Subtract refl (λ ds. refl) tt
atomic_complete atomic_functions.And = tagged_complete atomic_kinds atomic_with ends (λ t. atomic_functions.And) (codes "And") atomic_kind.And refl (λ ds. refl) tt
atomic_complete atomic_functions.ExclusiveOr = tagged_complete atomic_kinds atomic_with ends (λ t. atomic_functions.ExclusiveOr) (codes "ExclusiveOr") atomic_kind.ExclusiveOr refl (λ ds. refl) tt
atomic_complete atomic_functions.InclusiveOr = tagged_complete atomic_kinds atomic_with ends (λ t. atomic_functions.InclusiveOr) (codes "InclusiveOr") atomic_kind.InclusiveOr refl (λ ds. refl) tt
atomic_complete atomic_functions.Min = tagged_complete atomic_kinds atomic_with ends (λ t. atomic_functions.Min) (codes "Min") atomic_kind.Min refl (λ ds. refl) tt
atomic_complete atomic_functions.Max = tagged_complete atomic_kinds atomic_with ends (λ t. atomic_functions.Max) (codes "Max") atomic_kind.Max refl (λ ds. refl) tt
atomic_complete (atomic_functions.Exchange a) = tagged_complete atomic_kinds atomic_with (row1 (maybe a_handle)) (λ t. atomic_functions.Exchange t) (codes "Exchange") atomic_kind.Exchange refl (λ ds. refl) a

abbrev pub an_atomic : FormOf AtomicFunction
an_atomic = by_kind atomic_kinds atomic_with AnAtomicFunction atomic_sound atomic_complete

unfoldable pub gather_with : GatherKind → Items → Option GatherMode
gather_with gather_kind.BroadcastFirst ds = option_map (λ t. gather_modes.BroadcastFirst) (ends.find ds)
gather_with gather_kind.Broadcast ds = option_map (λ t. gather_modes.Broadcast t) ((row1 a_handle).find ds)
gather_with gather_kind.Shuffle ds = option_map (λ t. gather_modes.Shuffle t) ((row1 a_handle).find ds)
gather_with gather_kind.ShuffleDown ds = option_map (λ t. gather_modes.ShuffleDown t) ((row1 a_handle).find ds)
gather_with gather_kind.ShuffleUp ds = option_map (λ t. gather_modes.ShuffleUp t) ((row1 a_handle).find ds)
gather_with gather_kind.ShuffleXor ds = option_map (λ t. gather_modes.ShuffleXor t) ((row1 a_handle).find ds)
gather_with gather_kind.QuadBroadcast ds = option_map (λ t. gather_modes.QuadBroadcast t) ((row1 a_handle).find ds)
gather_with gather_kind.QuadSwap ds = option_map (λ t. gather_modes.QuadSwap t) ((row1 (a_word directions)).find ds)

pub gather_sound : AreSound gather_with (λ x ds. AGatherMode x (array ds)) gather_kinds
unfolding gather_with AGatherMode
gather_sound = (
  kind_sound ends (λ t. gather_modes.BroadcastFirst) (codes "BroadcastFirst") (λ x ds. AGatherMode x (array ds)) (λ t ds h. (refl, h)),
  (
    kind_sound (row1 a_handle) (λ t. gather_modes.Broadcast t) (codes "Broadcast") (λ x ds. AGatherMode x (array ds)) (λ t ds h. (refl, h)),
    (
      kind_sound (row1 a_handle) (λ t. gather_modes.Shuffle t) (codes "Shuffle") (λ x ds. AGatherMode x (array ds)) (λ t ds h. (refl, h)),
      (
        kind_sound (row1 a_handle) (λ t. gather_modes.ShuffleDown t) (codes "ShuffleDown") (λ x ds. AGatherMode x (array ds)) (λ t ds h. (refl, h)),
        (
          kind_sound (row1 a_handle) (λ t. gather_modes.ShuffleUp t) (codes "ShuffleUp") (λ x ds. AGatherMode x (array ds)) (λ t ds h. (refl, h)),
          (
            kind_sound (row1 a_handle) (λ t. gather_modes.ShuffleXor t) (codes "ShuffleXor") (λ x ds. AGatherMode x (array ds)) (λ t ds h. (refl, h)),
            (
              kind_sound (row1 a_handle) (λ t. gather_modes.QuadBroadcast t) (codes "QuadBroadcast") (λ x ds. AGatherMode x (array ds)) (λ t ds h. (refl, h)),
              (
                kind_sound (row1 (a_word directions)) (λ t. gather_modes.QuadSwap t) (codes "QuadSwap") (λ x ds. AGatherMode x (array ds)) (λ t ds h. (refl, h)),
                tt,
              ),
            ),
          ),
        ),
      ),
    ),
  ),
)

pub gather_complete : (x : GatherMode) → (d : Data) → AGatherMode x d → depth d ≤ deepest → tagged_of gather_kinds gather_with d ≡ Some x
unfolding gather_with AGatherMode
gather_complete gather_modes.BroadcastFirst = tagged_complete gather_kinds gather_with ends (λ t. gather_modes.BroadcastFirst) (codes "BroadcastFirst") gather_kind.BroadcastFirst refl (λ ds. refl) tt
gather_complete (gather_modes.Broadcast a) = tagged_complete gather_kinds gather_with (row1 a_handle) (λ t. gather_modes.Broadcast t) (codes "Broadcast") gather_kind.Broadcast refl (λ ds. refl) a
gather_complete (gather_modes.Shuffle a) = tagged_complete gather_kinds gather_with (row1 a_handle) (λ t. gather_modes.Shuffle t) (codes "Shuffle") gather_kind.Shuffle refl (λ ds. refl) a
gather_complete (gather_modes.ShuffleDown a) = tagged_complete gather_kinds gather_with (row1 a_handle) (λ t. gather_modes.ShuffleDown t) (codes "ShuffleDown") gather_kind.ShuffleDown refl (λ ds. refl) a
gather_complete (gather_modes.ShuffleUp a) = tagged_complete gather_kinds gather_with (row1 a_handle) (λ t. gather_modes.ShuffleUp t) (codes "ShuffleUp") gather_kind.ShuffleUp refl (λ ds. refl) a
gather_complete (gather_modes.ShuffleXor a) = tagged_complete gather_kinds gather_with (row1 a_handle) (λ t. gather_modes.ShuffleXor t) (codes "ShuffleXor") gather_kind.ShuffleXor refl (λ ds. refl) a
gather_complete (gather_modes.QuadBroadcast a) = tagged_complete gather_kinds gather_with (row1 a_handle) (λ t. gather_modes.QuadBroadcast t) (codes "QuadBroadcast") gather_kind.QuadBroadcast refl (λ ds. refl) a
gather_complete (gather_modes.QuadSwap a) = tagged_complete gather_kinds gather_with (row1 (a_word directions)) (λ t. gather_modes.QuadSwap t) (codes "QuadSwap") gather_kind.QuadSwap refl (λ ds. refl) a

abbrev pub a_gather : FormOf GatherMode
a_gather = by_kind gather_kinds gather_with AGatherMode gather_sound gather_complete

unfoldable pub ray_query_with : RayQueryKind → Items → Option RayQueryFunction
ray_query_with ray_query_kind.Initialize ds = option_map (λ t. query_functions.Initialize t.0 t.1) ((row2 a_handle a_handle).find ds)
ray_query_with ray_query_kind.Proceed ds = option_map (λ t. query_functions.Proceed t) ((row1 a_handle).find ds)
ray_query_with ray_query_kind.GenerateIntersection ds = option_map (λ t. query_functions.GenerateIntersection t) ((row1 a_handle).find ds)
ray_query_with ray_query_kind.ConfirmIntersection ds = option_map (λ t. query_functions.ConfirmIntersection) (ends.find ds)
ray_query_with ray_query_kind.Terminate ds = option_map (λ t. query_functions.Terminate) (ends.find ds)

pub ray_query_sound : AreSound ray_query_with (λ x ds. ARayQueryFunction x (array ds)) ray_query_kinds
unfolding ray_query_with ARayQueryFunction
ray_query_sound = (
  kind_sound (row2 a_handle a_handle) (λ t. query_functions.Initialize t.0 t.1) (codes "Initialize") (λ x ds. ARayQueryFunction x (array ds)) (λ t ds h. (refl, h)),
  (
    kind_sound (row1 a_handle) (λ t. query_functions.Proceed t) (codes "Proceed") (λ x ds. ARayQueryFunction x (array ds)) (λ t ds h. (refl, h)),
    (
      kind_sound (row1 a_handle) (λ t. query_functions.GenerateIntersection t) (codes "GenerateIntersection") (λ x ds. ARayQueryFunction x (array ds)) (λ t ds h. (refl, h)),
      (
        kind_sound ends (λ t. query_functions.ConfirmIntersection) (codes "ConfirmIntersection") (λ x ds. ARayQueryFunction x (array ds)) (λ t ds h. (refl, h)),
        (
          kind_sound ends (λ t. query_functions.Terminate) (codes "Terminate") (λ x ds. ARayQueryFunction x (array ds)) (λ t ds h. (refl, h)),
          tt,
        ),
      ),
    ),
  ),
)

pub ray_query_complete : (x : RayQueryFunction) → (d : Data) → ARayQueryFunction x d → depth d ≤ deepest → tagged_of ray_query_kinds ray_query_with d ≡ Some x
unfolding ray_query_with ARayQueryFunction
ray_query_complete (query_functions.Initialize a b) = tagged_complete ray_query_kinds ray_query_with (row2 a_handle a_handle) (λ t. query_functions.Initialize t.0 t.1) (codes "Initialize") ray_query_kind.Initialize refl (λ ds. refl) (a, b)
ray_query_complete (query_functions.Proceed a) = tagged_complete ray_query_kinds ray_query_with (row1 a_handle) (λ t. query_functions.Proceed t) (codes "Proceed") ray_query_kind.Proceed refl (λ ds. refl) a
ray_query_complete (query_functions.GenerateIntersection a) = tagged_complete ray_query_kinds ray_query_with (row1 a_handle) (λ t. query_functions.GenerateIntersection t) (codes "GenerateIntersection") ray_query_kind.GenerateIntersection refl (λ ds. refl) a
ray_query_complete query_functions.ConfirmIntersection = tagged_complete ray_query_kinds ray_query_with ends (λ t. query_functions.ConfirmIntersection) (codes "ConfirmIntersection") ray_query_kind.ConfirmIntersection refl (λ ds. refl) tt
ray_query_complete query_functions.Terminate = tagged_complete ray_query_kinds ray_query_with ends (λ t. query_functions.Terminate) (codes "Terminate") ray_query_kind.Terminate refl (λ ds. refl) tt

abbrev pub a_ray_query : FormOf RayQueryFunction
a_ray_query = by_kind ray_query_kinds ray_query_with ARayQueryFunction ray_query_sound ray_query_complete

unfoldable pub pipeline_with : PipelineKind → Items → Option RayPipelineFunction
pipeline_with pipeline_kind.TraceRay ds = option_map (λ t. pipeline_functions.TraceRay t.0 t.1 t.2) ((row3 a_handle a_handle a_handle).find ds)

pub pipeline_sound : AreSound pipeline_with (λ x ds. ARayPipelineFunction x (array ds)) pipeline_kinds
unfolding pipeline_with ARayPipelineFunction
pipeline_sound = (
  kind_sound (row3 a_handle a_handle a_handle) (λ t. pipeline_functions.TraceRay t.0 t.1 t.2) (codes "TraceRay") (λ x ds. ARayPipelineFunction x (array ds)) (λ t ds h. (refl, h)),
  tt,
)

pub pipeline_complete : (x : RayPipelineFunction) → (d : Data) → ARayPipelineFunction x d → depth d ≤ deepest → tagged_of pipeline_kinds pipeline_with d ≡ Some x
unfolding pipeline_with ARayPipelineFunction
pipeline_complete (pipeline_functions.TraceRay a b c) = tagged_complete pipeline_kinds pipeline_with (row3 a_handle a_handle a_handle) (λ t. pipeline_functions.TraceRay t.0 t.1 t.2) (codes "TraceRay") pipeline_kind.TraceRay refl (λ ds. refl) (a, b, c)

abbrev pub a_pipeline : FormOf RayPipelineFunction
a_pipeline = by_kind pipeline_kinds pipeline_with ARayPipelineFunction pipeline_sound pipeline_complete

-- ---- statements, whose nested blocks `inside` decodes

abbrev pub Found : {A : Type 0} → (Data → Option A) → A → Data → Type 0
Found f x d = f d ≡ Some x

-- the result, as a form
abbrev pub a_found : {A : Type 0} → (Data → Option A) → FormOf A
a_found f = record { find = f; Written = Found f; exact = record { sound = λ d x e. e; complete = λ d x e le. e } }

abbrev pub case_made : SwitchValue × PlainBlock × Bool → PlainCase
case_made t = record { value = t.0; body = t.1; falls = t.2 }

unfoldable pub case_with : (Data → Option PlainBlock) → Data → Option PlainCase
case_with inside d = option_map case_made ((an_array (row3 a_value (a_found inside) a_bool)).find d)

unfoldable pub statement_with : (Data → Option PlainBlock) → StatementKind → Items → Option PlainStatement
statement_with inside statement_kind.Block ds = option_map (λ t. block t) ((row1 (a_found inside)).find ds)
statement_with inside statement_kind.If ds = option_map (λ t. if_ t.0 t.1 t.2) ((row3 a_handle (a_found inside) (a_found inside)).find ds)
statement_with inside statement_kind.Switch ds = option_map (λ t. switch t.0 (cases_of t.1)) ((row2 a_handle (a_list (a_found (case_with inside)))).find ds)
statement_with inside statement_kind.Loop ds = option_map (λ t. loop t.0 t.1 t.2) ((row3 (a_found inside) (a_found inside) (maybe a_handle)).find ds)
statement_with inside statement_kind.Emit ds = option_map (λ t. emit t.0 t.1) ((row2 a_u32 a_u32).find ds)
statement_with inside statement_kind.Break ds = option_map (λ t. break) (ends.find ds)
statement_with inside statement_kind.Continue ds = option_map (λ t. continue) (ends.find ds)
statement_with inside statement_kind.Return ds = option_map (λ t. return t) ((row1 (maybe a_handle)).find ds)
statement_with inside statement_kind.Kill ds = option_map (λ t. kill) (ends.find ds)
statement_with inside statement_kind.ControlBarrier ds = option_map (λ t. operation (control_barrier t)) ((row1 (a_set barriers (record { 0 = 0 }) barrier_union)).find ds)
statement_with inside statement_kind.MemoryBarrier ds = option_map (λ t. operation (memory_barrier t)) ((row1 (a_set barriers (record { 0 = 0 }) barrier_union)).find ds)
statement_with inside statement_kind.Store ds = option_map (λ t. operation (store t.0 t.1)) ((row2 a_handle a_handle).find ds)
statement_with inside statement_kind.ImageStore ds = option_map (λ t. operation (image_store t.0 t.1 t.2 t.3)) ((row4 a_handle a_handle (maybe a_handle) a_handle).find ds)
statement_with inside statement_kind.Atomic ds = option_map (λ t. operation (atomic t.0 t.1 t.2 t.3)) ((row4 a_handle an_atomic a_handle (maybe a_handle)).find ds)
statement_with inside statement_kind.ImageAtomic ds = option_map (λ t. operation (image_atomic t.0 t.1 t.2 t.3 t.4)) ((row5 a_handle a_handle (maybe a_handle) an_atomic a_handle).find ds)
statement_with inside statement_kind.WorkGroupUniformLoad ds = option_map (λ t. operation (uniform_load t.0 t.1)) ((row2 a_handle a_handle).find ds)
statement_with inside statement_kind.Call ds = option_map (λ t. call t.0 t.1 t.2) ((row3 a_handle (a_list a_handle) (maybe a_handle)).find ds)
statement_with inside statement_kind.RayQuery ds = option_map (λ t. operation (ray_query t.0 t.1)) ((row2 a_handle a_ray_query).find ds)
statement_with inside statement_kind.SubgroupBallot ds = option_map (λ t. operation (ballot t.0 t.1)) ((row2 a_handle (maybe a_handle)).find ds)
statement_with inside statement_kind.SubgroupCollectiveOperation ds = option_map (λ t. operation (collective t.0 t.1 t.2 t.3)) ((row4 (a_word subgroup_operations) (a_word collective_operations) a_handle a_handle).find ds)
statement_with inside statement_kind.SubgroupGather ds = option_map (λ t. operation (gather t.0 t.1 t.2)) ((row3 a_gather a_handle a_handle).find ds)
statement_with inside statement_kind.CooperativeStore ds = option_map (λ t. operation (cooperative_store t.0 (record { pointer = t.1; stride = t.2; row_major = t.3 }))) ((row4 a_handle a_handle a_handle a_bool).find ds)
statement_with inside statement_kind.RayPipelineFunction ds = option_map (λ t. operation (ray_pipeline t)) ((row1 a_pipeline).find ds)

-- the decoder of blocks that always fails
abbrev pub no_blocks : Data → Option PlainBlock
no_blocks d = None

-- n bounds the nesting depth of statements
unfoldable pub statement_at : ℕ → Data → Option PlainStatement
statement_at zero d = None
statement_at (suc n) d = tagged_of statement_kinds (statement_with (λ b. option_map block_of (all_of (statement_at n) b))) d

abbrev pub block_at : ℕ → Data → Option PlainBlock
block_at n d = option_map block_of (all_of (statement_at n) d)

abbrev pub ABody : PlainBlock → Data → Type 0
ABody b = AnArray (TheStatements b)

abbrev pub ACase : PlainCase → Data → Type 0
ACase c = AnArray (ASwitchValue c.value ▸ AnArray (TheStatements c.body) ▸ ABool c.falls ▸ Ends)

-- ---- laws of other elements of an array

starts_map : (p r : Data → Type 0) (q s : Items → Type 0) (n : ℕ) (ds : Items) → items_depth ds ≤ n → (p ▸ q) ds → ((d : Data) → depth d ≤ n → p d → r d) → ((es : Items) → items_depth es ≤ n → q es → s es) → (r ▸ s) ds
starts_map p r q s n no_items le h f g = absurd h
starts_map p r q s n (item d ds) le h f g = (f d (omega arith) h.0, g ds (omega arith) h.1)

starts_all : (p r : Data → Type 0) (q s : Items → Type 0) (ds : Items) → (p ▸ q) ds → ((d : Data) → p d → r d) → ((es : Items) → q es → s es) → (r ▸ s) ds
starts_all p r q s no_items h f g = absurd h
starts_all p r q s (item d ds) h f g = (f d h.0, g ds h.1)

array_map : (q s : Items → Type 0) (d : Data) → AnArray q d → ((es : Items) → q es → s es) → AnArray s d
array_map q s null h g = absurd h
array_map q s (boolean b) h g = absurd h
array_map q s (number m) h g = absurd h
array_map q s (string t) h g = absurd h
array_map q s (array ds) h g = g ds h
array_map q s (object ms) h g = absurd h

array_within : (q s : Items → Type 0) (n : ℕ) (d : Data) → depth d ≤ suc n → AnArray q d → ((es : Items) → items_depth es ≤ n → q es → s es) → AnArray s d
array_within q s n null le h g = absurd h
array_within q s n (boolean b) le h g = absurd h
array_within q s n (number m) le h g = absurd h
array_within q s n (string t) le h g = absurd h
array_within q s n (array ds) le h g = g ds (omega arith) h
array_within q s n (object ms) le h g = absurd h

tagged_within : (w : List ℕ) (q s : Items → Type 0) (n : ℕ) (d : Data) → depth d ≤ suc n → Tagged w q d → ((es : Items) → items_depth es ≤ n → q es → s es) → Tagged w s d
tagged_within w q s n d le h g = array_within _ _ n d le h (λ es l row. starts_map _ _ q s n es l row (λ x m e. e) g)

-- ---- soundness: what is decoded is encoded

module _ (inside : Data → Option PlainBlock) (sound : (d : Data) (b : PlainBlock) → inside d ≡ Some b → ABody b d) where
  case_sound : (d : Data) (c : PlainCase) → case_with inside d ≡ Some c → ACase c d
  unfolding case_with
  case_sound d c e =
      let f = an_array (row3 a_value (a_found inside) a_bool) in
      let a = map_some case_made (f.find d) c e in
      subst (λ y. ACase y d) a.2 (array_map _ _ d (f.exact.sound d a.0 a.1) (λ es row. starts_all _ _ _ _ es row (λ x k. k) (λ fs more. starts_all _ _ _ _ fs more (λ x k. sound x a.0.1 k) (λ gs k. k))))

  cases_found : (xs : List PlainCase) (ds : Items) → EachOf (Found (case_with inside)) xs ds → TheCases (cases_of xs) ds
  cases_found [] no_items h = tt
  cases_found [] (item d ds) h = absurd h
  cases_found (x ∷ xs) no_items h = absurd h
  cases_found (x ∷ xs) (item d ds) h = (case_sound d x h.0, cases_found xs ds h.1)

  statements_sound : AreSound (statement_with inside) (λ x ds. AStatement x (array ds)) statement_kinds
  unfolding statement_with AnOperation
  statements_sound = (
    kind_sound (row2 a_u32 a_u32) (λ t. emit t.0 t.1) (codes "Emit") (λ x ds. AStatement x (array ds)) (λ t ds h. (refl, h)),
    (
      kind_sound (row2 a_handle a_handle) (λ t. operation (store t.0 t.1)) (codes "Store") (λ x ds. AStatement x (array ds)) (λ t ds h. (refl, h)),
      (
        kind_sound (row3 a_handle (a_found inside) (a_found inside)) (λ t. if_ t.0 t.1 t.2) (codes "If") (λ x ds. AStatement x (array ds)) (λ t ds h. (refl, starts_all _ _ _ _ ds h (λ d k. k) (λ es k. starts_all _ _ _ _ es k (λ d k. sound d t.1 k) (λ fs k. starts_all _ _ _ _ fs k (λ d k. sound d t.2 k) (λ gs k. k))))),
        (
          kind_sound (row1 (maybe a_handle)) (λ t. return t) (codes "Return") (λ x ds. AStatement x (array ds)) (λ t ds h. (refl, h)),
          (
            kind_sound (row3 a_handle (a_list a_handle) (maybe a_handle)) (λ t. call t.0 t.1 t.2) (codes "Call") (λ x ds. AStatement x (array ds)) (λ t ds h. (refl, h)),
            (
              kind_sound (row1 (a_found inside)) (λ t. block t) (codes "Block") (λ x ds. AStatement x (array ds)) (λ t ds h. (refl, starts_all _ _ _ _ ds h (λ d k. sound d t k) (λ es k. k))),
              (
                kind_sound ends (λ t. break) (codes "Break") (λ x ds. AStatement x (array ds)) (λ t ds h. (refl, h)),
                (
                  kind_sound (row3 (a_found inside) (a_found inside) (maybe a_handle)) (λ t. loop t.0 t.1 t.2) (codes "Loop") (λ x ds. AStatement x (array ds)) (λ t ds h. (refl, starts_all _ _ _ _ ds h (λ d k. sound d t.0 k) (λ es k. starts_all _ _ _ _ es k (λ d k. sound d t.1 k) (λ fs k. k)))),
                  (
                    kind_sound (row2 a_handle (a_list (a_found (case_with inside)))) (λ t. switch t.0 (cases_of t.1)) (codes "Switch") (λ x ds. AStatement x (array ds)) (λ t ds h. (refl, starts_all _ _ _ _ ds h (λ d k. k) (λ es k. starts_all _ _ _ _ es k (λ d k. array_map _ _ d k (cases_found t.1)) (λ fs k. k)))),
                    (
                      kind_sound ends (λ t. continue) (codes "Continue") (λ x ds. AStatement x (array ds)) (λ t ds h. (refl, h)),
                      (
                        kind_sound ends (λ t. kill) (codes "Kill") (λ x ds. AStatement x (array ds)) (λ t ds h. (refl, h)),
                        (
                          kind_sound (row1 (a_set barriers (record { 0 = 0 }) barrier_union)) (λ t. operation (control_barrier t)) (codes "ControlBarrier") (λ x ds. AStatement x (array ds)) (λ t ds h. (refl, h)),
                          (
                            kind_sound (row1 (a_set barriers (record { 0 = 0 }) barrier_union)) (λ t. operation (memory_barrier t)) (codes "MemoryBarrier") (λ x ds. AStatement x (array ds)) (λ t ds h. (refl, h)),
                            (
                              kind_sound (row4 a_handle a_handle (maybe a_handle) a_handle) (λ t. operation (image_store t.0 t.1 t.2 t.3)) (codes "ImageStore") (λ x ds. AStatement x (array ds)) (λ t ds h. (refl, h)),
                              (
                                kind_sound (row4 a_handle an_atomic a_handle (maybe a_handle)) (λ t. operation (atomic t.0 t.1 t.2 t.3)) (codes "Atomic") (λ x ds. AStatement x (array ds)) (λ t ds h. (refl, h)),
                                (
                                  kind_sound (row5 a_handle a_handle (maybe a_handle) an_atomic a_handle) (λ t. operation (image_atomic t.0 t.1 t.2 t.3 t.4)) (codes "ImageAtomic") (λ x ds. AStatement x (array ds)) (λ t ds h. (refl, h)),
                                  (
                                    kind_sound (row2 a_handle a_handle) (λ t. operation (uniform_load t.0 t.1)) (codes "WorkGroupUniformLoad") (λ x ds. AStatement x (array ds)) (λ t ds h. (refl, h)),
                                    (
                                      kind_sound (row2 a_handle a_ray_query) (λ t. operation (ray_query t.0 t.1)) (codes "RayQuery") (λ x ds. AStatement x (array ds)) (λ t ds h. (refl, h)),
                                      (
                                        kind_sound (row2 a_handle (maybe a_handle)) (λ t. operation (ballot t.0 t.1)) (codes "SubgroupBallot") (λ x ds. AStatement x (array ds)) (λ t ds h. (refl, h)),
                                        (
                                          kind_sound (row4 (a_word subgroup_operations) (a_word collective_operations) a_handle a_handle) (λ t. operation (collective t.0 t.1 t.2 t.3)) (codes "SubgroupCollectiveOperation") (λ x ds. AStatement x (array ds)) (λ t ds h. (refl, h)),
                                          (
                                            kind_sound (row3 a_gather a_handle a_handle) (λ t. operation (gather t.0 t.1 t.2)) (codes "SubgroupGather") (λ x ds. AStatement x (array ds)) (λ t ds h. (refl, h)),
                                            (
                                              kind_sound (row4 a_handle a_handle a_handle a_bool) (λ t. operation (cooperative_store t.0 (record { pointer = t.1; stride = t.2; row_major = t.3 }))) (codes "CooperativeStore") (λ x ds. AStatement x (array ds)) (λ t ds h. (refl, h)),
                                              (
                                                kind_sound (row1 a_pipeline) (λ t. operation (ray_pipeline t)) (codes "RayPipelineFunction") (λ x ds. AStatement x (array ds)) (λ t ds h. (refl, h)),
                                                tt,
                                              ),
                                            ),
                                          ),
                                        ),
                                      ),
                                    ),
                                  ),
                                ),
                              ),
                            ),
                          ),
                        ),
                      ),
                    ),
                  ),
                ),
              ),
            ),
          ),
        ),
      ),
    ),
  )

block_sound-of : (n : ℕ) → ((d : Data) (s : PlainStatement) → statement_at n d ≡ Some s → AStatement s d) → (d : Data) (b : PlainBlock) → block_at n d ≡ Some b → ABody b d
block_sound-of n sound d b e =
    let f = a_list (a_found (statement_at n)) in
    let a = map_some block_of (f.find d) b e in
    subst (λ y. ABody y d) a.2 (array_map _ _ d (f.exact.sound d a.0 a.1) (statements_found a.0))
  where
    statements_found : (xs : List PlainStatement) (ds : Items) → EachOf (Found (statement_at n)) xs ds → TheStatements (block_of xs) ds
    statements_found [] no_items h = tt
    statements_found [] (item x ds) h = absurd h
    statements_found (x ∷ xs) no_items h = absurd h
    statements_found (x ∷ xs) (item y ds) h = (sound y x h.0, statements_found xs ds h.1)

pub statement_sound : (n : ℕ) (d : Data) (s : PlainStatement) → statement_at n d ≡ Some s → AStatement s d
unfolding statement_at
statement_sound zero d s e = cc
statement_sound (suc n) d s e = tagged_sound statement_kinds (statement_with (block_at n)) AStatement (statements_sound (block_at n) (block_sound-of n (statement_sound n))) d s e

pub block_sound : (n : ℕ) (d : Data) (b : PlainBlock) → block_at n d ≡ Some b → AnArray (TheStatements b) d
block_sound n = block_sound-of n (statement_sound n)

-- ---- completeness: what is encoded is decoded

tagged_deep : (w : List ℕ) (q : Items → Type 0) (d : Data) → Tagged w q d → depth d ≤ 0 → ⊥
tagged_deep w q null h le = h
tagged_deep w q (boolean b) h le = h
tagged_deep w q (number m) h le = h
tagged_deep w q (string t) h le = h
tagged_deep w q (array ds) h le = omega arith
tagged_deep w q (object ms) h le = h

cases_list : PlainCases → List PlainCase
cases_list no_case = []
cases_list (case value body falls rest) = record { value = value; body = body; falls = falls } ∷ cases_list rest

cases_back : (cs : PlainCases) → cases_of (cases_list cs) ≡ cs
unfolding cases_list
cases_back no_case = refl
cases_back (case value body falls rest) = ap (case value body falls) (cases_back rest)

module _ (n : ℕ) (complete_at : (d : Data) (s : PlainStatement) → AStatement s d → depth d ≤ n → statement_at n d ≡ Some s) where
  statements_there : (b : PlainBlock) (ds : Items) → TheStatements b ds → items_depth ds ≤ n → (xs : List PlainStatement) × (each (statement_at n) ds ≡ Some xs) × (block_of xs ≡ b)
  statements_there stop no_items h le = ([], refl, refl)
  statements_there stop (item d ds) h le = absurd h
  statements_there (next s rest) no_items h le = absurd h
  statements_there (next s rest) (item d ds) h le =
      let r = statements_there rest ds h.1 (omega arith) in
      (s ∷ r.0, rw (complete_at d s h.0 (omega arith)) (rw r.1 refl), ap (next s) r.2)

  block_there : (d : Data) (b : PlainBlock) → ABody b d → depth d ≤ n → block_at n d ≡ Some b
  block_there null b h le = absurd h
  block_there (boolean c) b h le = absurd h
  block_there (number m) b h le = absurd h
  block_there (string t) b h le = absurd h
  block_there (array ds) b h le = let r = statements_there b ds h (omega arith) in ap (option_map block_of) r.1 ∙ ap Some r.2
  block_there (object ms) b h le = absurd h

module _ (n : ℕ) (bound : suc n ≤ deepest) (complete_at : (d : Data) (s : PlainStatement) → AStatement s d → depth d ≤ n → statement_at n d ≡ Some s) where
  case_there : (d : Data) (c : PlainCase) → ACase c d → depth d ≤ n → case_with (block_at n) d ≡ Some c
  unfolding case_with
  case_there d c h le =
      let f = an_array (row3 a_value (a_found (block_at n)) a_bool) in
      ap (option_map case_made) (f.exact.complete d (c.value, c.body, c.falls)
      (array_within _ _ n d (omega arith) h (λ es l row. starts_map _ _ _ _ n es l row (λ x m k. k) (λ fs l more. starts_map _ _ _ _ n fs l more (λ x m k. block_there n complete_at x c.body k m) (λ gs l k. k)))) (omega arith))

  cases_there : (cs : PlainCases) (ds : Items) → TheCases cs ds → items_depth ds ≤ n → EachOf (Found (case_with (block_at n))) (cases_list cs) ds
  unfolding cases_list
  cases_there no_case no_items h le = tt
  cases_there no_case (item d ds) h le = absurd h
  cases_there (case value body falls rest) no_items h le = absurd h
  cases_there (case value body falls rest) (item d ds) h le =
      (case_there d (record { value = value; body = body; falls = falls }) h.0 (omega arith), cases_there rest ds h.1 (omega arith))

  there : (d : Data) (s : PlainStatement) → AStatement s d → depth d ≤ suc n → tagged_of statement_kinds (statement_with (block_at n)) d ≡ Some s
  unfolding statement_with AnOperation
  there d (block b) h le = tagged_complete statement_kinds (statement_with (block_at n)) (row1 (a_found (block_at n))) (λ t. block t) (codes "Block") statement_kind.Block refl (λ ds. refl) b d (tagged_within _ _ _ n d le h (λ es l row. starts_map _ _ _ _ n es l row (λ x m k. block_there n complete_at x b k m) (λ fs l k. k))) (omega arith)
  there d (if_ test a r) h le = tagged_complete statement_kinds (statement_with (block_at n)) (row3 a_handle (a_found (block_at n)) (a_found (block_at n))) (λ t. if_ t.0 t.1 t.2) (codes "If") statement_kind.If refl (λ ds. refl) (test, a, r) d (tagged_within _ _ _ n d le h (λ es l row. starts_map _ _ _ _ n es l row (λ x m k. k) (λ fs l k. starts_map _ _ _ _ n fs l k (λ x m k. block_there n complete_at x a k m) (λ gs l k. starts_map _ _ _ _ n gs l k (λ x m k. block_there n complete_at x r k m) (λ hs l k. k))))) (omega arith)
  there d (switch selector cs) h le = tagged_complete statement_kinds (statement_with (block_at n)) (row2 a_handle (a_list (a_found (case_with (block_at n))))) (λ t. switch t.0 (cases_of t.1)) (codes "Switch") statement_kind.Switch refl (λ ds. refl) (selector, cases_list cs) d (tagged_within _ _ _ n d le h (λ es l row. starts_map _ _ _ _ n es l row (λ x m k. k) (λ fs l k. starts_map _ _ _ _ n fs l k (λ x m k. array_within _ _ n x (omega arith) k (λ gs l k. cases_there cs gs k l)) (λ gs l k. k)))) (omega arith) ∙ ap (λ c. Some (switch selector c)) (cases_back cs)
  there d (loop b c o) h le = tagged_complete statement_kinds (statement_with (block_at n)) (row3 (a_found (block_at n)) (a_found (block_at n)) (maybe a_handle)) (λ t. loop t.0 t.1 t.2) (codes "Loop") statement_kind.Loop refl (λ ds. refl) (b, c, o) d (tagged_within _ _ _ n d le h (λ es l row. starts_map _ _ _ _ n es l row (λ x m k. block_there n complete_at x b k m) (λ fs l k. starts_map _ _ _ _ n fs l k (λ x m k. block_there n complete_at x c k m) (λ gs l k. k)))) (omega arith)
  there d (emit first end) h le = tagged_complete statement_kinds (statement_with (block_at n)) (row2 a_u32 a_u32) (λ t. emit t.0 t.1) (codes "Emit") statement_kind.Emit refl (λ ds. refl) (first, end) d h (omega arith)
  there d break h le = tagged_complete statement_kinds (statement_with (block_at n)) ends (λ t. break) (codes "Break") statement_kind.Break refl (λ ds. refl) tt d h (omega arith)
  there d continue h le = tagged_complete statement_kinds (statement_with (block_at n)) ends (λ t. continue) (codes "Continue") statement_kind.Continue refl (λ ds. refl) tt d h (omega arith)
  there d (return value) h le = tagged_complete statement_kinds (statement_with (block_at n)) (row1 (maybe a_handle)) (λ t. return t) (codes "Return") statement_kind.Return refl (λ ds. refl) value d h (omega arith)
  there d kill h le = tagged_complete statement_kinds (statement_with (block_at n)) ends (λ t. kill) (codes "Kill") statement_kind.Kill refl (λ ds. refl) tt d h (omega arith)
  there d (operation (control_barrier barrier)) h le = tagged_complete statement_kinds (statement_with (block_at n)) (row1 (a_set barriers (record { 0 = 0 }) barrier_union)) (λ t. operation (control_barrier t)) (codes "ControlBarrier") statement_kind.ControlBarrier refl (λ ds. refl) barrier d h (omega arith)
  there d (operation (memory_barrier barrier)) h le = tagged_complete statement_kinds (statement_with (block_at n)) (row1 (a_set barriers (record { 0 = 0 }) barrier_union)) (λ t. operation (memory_barrier t)) (codes "MemoryBarrier") statement_kind.MemoryBarrier refl (λ ds. refl) barrier d h (omega arith)
  there d (operation (store pointer value)) h le = tagged_complete statement_kinds (statement_with (block_at n)) (row2 a_handle a_handle) (λ t. operation (store t.0 t.1)) (codes "Store") statement_kind.Store refl (λ ds. refl) (pointer, value) d h (omega arith)
  there d (operation (image_store image coordinate array_index value)) h le = tagged_complete statement_kinds (statement_with (block_at n)) (row4 a_handle a_handle (maybe a_handle) a_handle) (λ t. operation (image_store t.0 t.1 t.2 t.3)) (codes "ImageStore") statement_kind.ImageStore refl (λ ds. refl) (image, coordinate, array_index, value) d h (omega arith)
  there d (operation (atomic pointer fun value result)) h le = tagged_complete statement_kinds (statement_with (block_at n)) (row4 a_handle an_atomic a_handle (maybe a_handle)) (λ t. operation (atomic t.0 t.1 t.2 t.3)) (codes "Atomic") statement_kind.Atomic refl (λ ds. refl) (pointer, fun, value, result) d h (omega arith)
  there d (operation (image_atomic image coordinate array_index fun value)) h le = tagged_complete statement_kinds (statement_with (block_at n)) (row5 a_handle a_handle (maybe a_handle) an_atomic a_handle) (λ t. operation (image_atomic t.0 t.1 t.2 t.3 t.4)) (codes "ImageAtomic") statement_kind.ImageAtomic refl (λ ds. refl) (image, coordinate, array_index, fun, value) d h (omega arith)
  there d (operation (uniform_load pointer result)) h le = tagged_complete statement_kinds (statement_with (block_at n)) (row2 a_handle a_handle) (λ t. operation (uniform_load t.0 t.1)) (codes "WorkGroupUniformLoad") statement_kind.WorkGroupUniformLoad refl (λ ds. refl) (pointer, result) d h (omega arith)
  there d (call function arguments result) h le = tagged_complete statement_kinds (statement_with (block_at n)) (row3 a_handle (a_list a_handle) (maybe a_handle)) (λ t. call t.0 t.1 t.2) (codes "Call") statement_kind.Call refl (λ ds. refl) (function, arguments, result) d h (omega arith)
  there d (operation (ray_query query fun)) h le = tagged_complete statement_kinds (statement_with (block_at n)) (row2 a_handle a_ray_query) (λ t. operation (ray_query t.0 t.1)) (codes "RayQuery") statement_kind.RayQuery refl (λ ds. refl) (query, fun) d h (omega arith)
  there d (operation (ballot result predicate)) h le = tagged_complete statement_kinds (statement_with (block_at n)) (row2 a_handle (maybe a_handle)) (λ t. operation (ballot t.0 t.1)) (codes "SubgroupBallot") statement_kind.SubgroupBallot refl (λ ds. refl) (result, predicate) d h (omega arith)
  there d (operation (collective op collective_op argument result)) h le = tagged_complete statement_kinds (statement_with (block_at n)) (row4 (a_word subgroup_operations) (a_word collective_operations) a_handle a_handle) (λ t. operation (collective t.0 t.1 t.2 t.3)) (codes "SubgroupCollectiveOperation") statement_kind.SubgroupCollectiveOperation refl (λ ds. refl) (op, collective_op, argument, result) d h (omega arith)
  there d (operation (gather mode argument result)) h le = tagged_complete statement_kinds (statement_with (block_at n)) (row3 a_gather a_handle a_handle) (λ t. operation (gather t.0 t.1 t.2)) (codes "SubgroupGather") statement_kind.SubgroupGather refl (λ ds. refl) (mode, argument, result) d h (omega arith)
  there d (operation (cooperative_store target place)) h le = tagged_complete statement_kinds (statement_with (block_at n)) (row4 a_handle a_handle a_handle a_bool) (λ t. operation (cooperative_store t.0 (record { pointer = t.1; stride = t.2; row_major = t.3 }))) (codes "CooperativeStore") statement_kind.CooperativeStore refl (λ ds. refl) (target, place.pointer, place.stride, place.row_major) d h (omega arith)
  there d (operation (ray_pipeline fun)) h le = tagged_complete statement_kinds (statement_with (block_at n)) (row1 a_pipeline) (λ t. operation (ray_pipeline t)) (codes "RayPipelineFunction") statement_kind.RayPipelineFunction refl (λ ds. refl) fun d h (omega arith)

deep : (s : PlainStatement) (d : Data) → AStatement s d → depth d ≤ 0 → ⊥
unfolding AnOperation
deep (block b) d h le = tagged_deep _ _ d h le
deep (if_ test a r) d h le = tagged_deep _ _ d h le
deep (switch selector cs) d h le = tagged_deep _ _ d h le
deep (loop b c o) d h le = tagged_deep _ _ d h le
deep (emit first end) d h le = tagged_deep _ _ d h le
deep break d h le = tagged_deep _ _ d h le
deep continue d h le = tagged_deep _ _ d h le
deep (return value) d h le = tagged_deep _ _ d h le
deep kill d h le = tagged_deep _ _ d h le
deep (operation (control_barrier barrier)) d h le = tagged_deep _ _ d h le
deep (operation (memory_barrier barrier)) d h le = tagged_deep _ _ d h le
deep (operation (store pointer value)) d h le = tagged_deep _ _ d h le
deep (operation (image_store image coordinate array_index value)) d h le = tagged_deep _ _ d h le
deep (operation (atomic pointer fun value result)) d h le = tagged_deep _ _ d h le
deep (operation (image_atomic image coordinate array_index fun value)) d h le = tagged_deep _ _ d h le
deep (operation (uniform_load pointer result)) d h le = tagged_deep _ _ d h le
deep (call function arguments result) d h le = tagged_deep _ _ d h le
deep (operation (ray_query query fun)) d h le = tagged_deep _ _ d h le
deep (operation (ballot result predicate)) d h le = tagged_deep _ _ d h le
deep (operation (collective op collective_op argument result)) d h le = tagged_deep _ _ d h le
deep (operation (gather mode argument result)) d h le = tagged_deep _ _ d h le
deep (operation (cooperative_store target place)) d h le = tagged_deep _ _ d h le
deep (operation (ray_pipeline fun)) d h le = tagged_deep _ _ d h le

pub statement_complete : (n : ℕ) → n ≤ deepest → (d : Data) (s : PlainStatement) → AStatement s d → depth d ≤ n → statement_at n d ≡ Some s
unfolding statement_at
statement_complete zero bound d s h le = absurd (deep s d h le)
statement_complete (suc n) bound d s h le = there n bound (statement_complete n (omega arith)) d s h le

pub block_complete : (n : ℕ) → n ≤ deepest → (d : Data) (b : PlainBlock) → AnArray (TheStatements b) d → depth d ≤ n → block_at n d ≡ Some b
block_complete n bound d b h le = block_there n (statement_complete n bound) d b h le

pub body_exact : IsExact (block_at deepest) ABody
body_exact = record { sound = block_sound deepest; complete = block_complete deepest (omega arith) }

abbrev pub a_body : FormOf PlainBlock
a_body = record { find = block_at deepest; Written = ABody; exact = body_exact }
