-- The rule of a statement holds alike if functions have other bodies.
use Rattle.std.proofs.Common.{◌≡◌, ℕ, Bool, Option, Some, None, List, slice_get, sym, subst}
use Rattle.ir_blocks.specs.judged.Plain.{PlainOperation, control_barrier, memory_barrier, store, image_store, atomic, image_atomic, uniform_load, ray_query, ballot, collective, gather, cooperative_store, ray_pipeline, PlainStatement, return, operation, call, PlainBlock}
use Rattle.ir_blocks.specs.declared.operations.AtomicFunction.{AtomicFunction}
use Rattle.ir_blocks.specs.declared.operations.GatherMode.{GatherMode}
use Rattle.ir_blocks.specs.declared.operations.GatherMode.TheVariants as mode
use Rattle.ir_blocks.specs.declared.operations.RayPipelineFunction.TheVariants as pipeline
use Rattle.ir_blocks.specs.declared.operations.RayQueryFunction.{RayQueryFunction}
use Rattle.ir_blocks.specs.declared.operations.RayQueryFunction.TheVariants as ray
use Rattle.ir_flags.specs.declared.stages.SubgroupOperationSet.{SubgroupOperationSet}
use Rattle.ir_items.specs.judged.Plain.{PlainFunction, PlainEntry, PlainLocal, PlainArgument}
use Rattle.ir_items.specs.declared.functions.FunctionResult.{FunctionResult}
use Rattle.ir_kinds.specs.declared.scalars.Scalar.{Scalar}
use Rattle.spec_expressions.specs.judged.Operands.{comparand}
use Rattle.spec_statements.specs.judged.Atomics.{AtomicAnswer, AtomicAnswerOK, AtomicResultOK, AtomicChangeOK, changed_scalar}
use Rattle.spec_statements.specs.judged.Barriers.{HasSubgroupBarriers}
use Rattle.spec_statements.specs.judged.BlockContext.{BlockContext, form_at}
use Rattle.spec_statements.specs.judged.Calls.{CallResultOK, CallOK}
use Rattle.spec_statements.specs.judged.Interfaces.{BeginsAs, LocalOK, ArgumentOK, ResultOK, InterfaceOK}
use Rattle.spec_statements.specs.judged.RayQueries.{RayStepOK}
use Rattle.spec_statements.specs.judged.Returns.{ReturnOK}
use Rattle.spec_statements.specs.judged.Statements.{OperationOK, StatementOK}
use Rattle.spec_statements.specs.judged.StorageImages.{IsTexelOf, IsWritten, IsChanged, written_image, changed_image}
use Rattle.spec_statements.specs.judged.Subgroups.{HasOperation, IndexIsKnown}
use Rattle.spec_statements.specs.declared.shapes.ImageType.{ImageType}
use Rattle.judgement_laws.specs.judged.Like.{Matched, LikeFunction}
use Rattle.judgement_laws.proofs.Shared.{some_and, if_some_moves}

module _ (c : BlockContext) (functions : List PlainFunction) (entries : List PlainEntry) (body : PlainBlock) (like : Matched LikeFunction c.m.functions functions) where
  abbrev d : BlockContext
  d = record c { m = record c.m { functions = functions; entries = entries }; f = record c.f { body = body } }

  -- ---- parts of rules

  barriers : HasSubgroupBarriers c → HasSubgroupBarriers d
  barriers h = record { subgroups = h.subgroups; barriers = h.barriers; basic = h.basic }

  supported : (needed : SubgroupOperationSet) → HasOperation c needed → HasOperation d needed
  supported needed h = record { capable = h.capable; supported = h.supported }

  texel : (image : ImageType) (coordinate : ℕ) (array_index : Option ℕ) → IsTexelOf c image coordinate array_index → IsTexelOf d image coordinate array_index
  texel image coordinate array_index h = record { flat = h.flat; layer = h.layer }

  atomic_answer : (s : Scalar) (compare : Option ℕ) (answer : AtomicAnswer) → AtomicAnswerOK c s compare answer → AtomicAnswerOK d s compare answer
  atomic_answer s None answer h = h
  atomic_answer s (Some compare) answer h = h

  atomic_result : (s : Scalar) (done : AtomicFunction) (result : Option ℕ) → AtomicResultOK c s done result → AtomicResultOK d s done result
  atomic_result s done None h = h
  atomic_result s done (Some r) h = some_and (AtomicAnswerOK c s (comparand done)) (AtomicAnswerOK d s (comparand done)) _ (atomic_answer s (comparand done)) h

  changed : (pointer : ℕ) (done : AtomicFunction) (value : ℕ) (result : Option ℕ) (s : Scalar) → AtomicChangeOK c pointer done value result s → AtomicChangeOK d pointer done value result s
  changed pointer done value result s h = record { fits = h.fits; allowed = h.allowed; answered = atomic_result s done result h.answered }

  query_step : (fun : RayQueryFunction) (vertices : Bool) → RayStepOK c vertices fun → RayStepOK d vertices fun
  query_step (ray.Initialize acceleration_structure descriptor) vertices h = h
  query_step (ray.Proceed result) vertices h = h
  query_step (ray.GenerateIntersection hit_t) vertices h = h
  query_step ray.ConfirmIntersection vertices h = h
  query_step ray.Terminate vertices h = h

  index_known : (how : GatherMode) → IndexIsKnown c how → IndexIsKnown d how
  index_known mode.BroadcastFirst h = h
  index_known (mode.Broadcast index) h = h
  index_known (mode.Shuffle index) h = h
  index_known (mode.ShuffleDown index) h = h
  index_known (mode.ShuffleUp index) h = h
  index_known (mode.ShuffleXor index) h = h
  index_known (mode.QuadBroadcast index) h = h
  index_known (mode.QuadSwap direction) h = h

  -- ---- operations

  pub operation_moves : (o : PlainOperation) → OperationOK c o → OperationOK d o
  operation_moves (control_barrier barrier) h = λ has. barriers (h has)
  operation_moves (memory_barrier barrier) h = λ has. barriers (h has)
  operation_moves (store pointer value) h = record { place = h.place; storable = h.storable; fits = h.fits; writable = h.writable }
  operation_moves (image_store image coordinate array_index value) h =
      some_and
      (λ (p : ImageType). IsTexelOf c p coordinate array_index × IsWritten p.class (form_at c value))
      (λ (p : ImageType). IsTexelOf d p coordinate array_index × IsWritten p.class (form_at d value))
      (written_image c.m c.f image)
      (λ p x. (texel p coordinate array_index x.0, x.1))
      h
  operation_moves (atomic pointer fun value result) h =
      some_and (AtomicChangeOK c pointer fun value result) (AtomicChangeOK d pointer fun value result) (changed_scalar c.m.types (form_at c pointer)) (changed pointer fun value result) h
  operation_moves (image_atomic image coordinate array_index fun value) h =
      some_and
      (λ (p : ImageType). IsTexelOf c p coordinate array_index × IsChanged c.capabilities p.class fun (form_at c value))
      (λ (p : ImageType). IsTexelOf d p coordinate array_index × IsChanged d.capabilities p.class fun (form_at d value))
      (changed_image c.m c.f image)
      (λ p x. (texel p coordinate array_index x.0, x.1))
      h
  operation_moves (uniform_load pointer result) h = record { space = h.space; answered = h.answered }
  operation_moves (ray_query query fun) h = some_and (λ vertices. RayStepOK c vertices fun) (λ vertices. RayStepOK d vertices fun) _ (query_step fun) h
  operation_moves (ballot result predicate) h = record { operation = supported _ h.operation; truth = h.truth }
  operation_moves (collective op collective_op argument result) h = record { operation = supported _ h.operation; takes = h.takes; goes = h.goes; answered = h.answered }
  operation_moves (gather how argument result) h = record { operation = supported _ h.operation; index = h.index; known = index_known how h.known; number = h.number; answered = h.answered }
  operation_moves (cooperative_store target place) h = record { scalar = h.scalar; matrix = h.matrix; fits = h.fits; writable = h.writable }
  operation_moves (ray_pipeline (pipeline.TraceRay acceleration_structure descriptor payload)) h =
      record { structure = h.structure; described = h.described; payload_variable = h.payload_variable }

  -- ---- statements

  return_moves : (value : Option ℕ) → ReturnOK c value → ReturnOK d value
  return_moves None h = h
  return_moves (Some value) h = h

  result_moves : (function : ℕ) (f g : PlainFunction) → LikeFunction f g → (result : Option ℕ) → CallResultOK c function f result → CallResultOK d function g result
  result_moves function f g l None h = subst (λ (z : PlainFunction). z.result ≡ None) (sym l.rest) h
  result_moves function f g l (Some r) h = subst (λ (z : PlainFunction). CallResultOK c function z (Some r)) (sym l.rest) h

  call_moves : (function : ℕ) (arguments : List ℕ) (result : Option ℕ) → CallOK c function arguments result → CallOK d function arguments result
  call_moves function arguments result h =
      let g = like.there function h.callee h.called in
      record {
        callee = g.0;
        called = g.1;
        passed = λ i e a at_argument at_parameter. h.passed i e a at_argument (subst (λ (z : PlainFunction). slice_get z.arguments i ≡ Some a) g.2.rest at_parameter);
        answered = result_moves function h.callee g.0 g.2 result h.answered;
      }

  pub rule_moves : (s : PlainStatement) → StatementOK c s → StatementOK d s
  rule_moves (return value) h = return_moves value h
  rule_moves (operation o) h = operation_moves o h
  rule_moves (call function arguments result) h = call_moves function arguments result h
  rule_moves s h = h

  -- ---- variables, arguments and the result of a function

  begins_moves : (ty init : ℕ) → BeginsAs c ty init → BeginsAs d ty init
  begins_moves ty init h = record { fits = h.fits; known = h.known }

  local_moves : (v : PlainLocal) → LocalOK c v → LocalOK d v
  local_moves v h = record { constructible = h.constructible; begins = if_some_moves (BeginsAs c v.ty) (BeginsAs d v.ty) v.init (begins_moves v.ty) h.begins }

  argument_moves : (entry : Bool) (a : PlainArgument) → ArgumentOK c.m entry a → ArgumentOK d.m entry a
  argument_moves entry a h = record { space = h.space; argument = h.argument; unbound = h.unbound }

  answer_moves : (entry : Bool) (r : FunctionResult) → ResultOK c.m entry r → ResultOK d.m entry r
  answer_moves entry r h = record { constructible = h.constructible; unbound = h.unbound }

  pub interface_moves : (entry : Bool) → InterfaceOK c entry → InterfaceOK d entry
  interface_moves entry h = record {
    locals = λ i v at. local_moves v (h.locals i v at);
    arguments = λ i a at. argument_moves entry a (h.arguments i a at);
    result = if_some_moves (ResultOK c.m entry) (ResultOK d.m entry) c.f.result (answer_moves entry) h.result;
  }
