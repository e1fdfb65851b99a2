-- The kinds of statements and of their parts, with their tags.
use Rattle.std.specs.Prelude.{ℕ, List, [], ◌∷◌, codes}
use Rattle.document_reader.specs.declared.kinds.ValueKind.{ValueKind}
use Rattle.document_reader.specs.declared.kinds.ValueKind.TheVariants as value_kind
use Rattle.document_reader.specs.declared.kinds.AtomicKind.{AtomicKind}
use Rattle.document_reader.specs.declared.kinds.AtomicKind.TheVariants as atomic_kind
use Rattle.document_reader.specs.declared.kinds.GatherKind.{GatherKind}
use Rattle.document_reader.specs.declared.kinds.GatherKind.TheVariants as gather_kind
use Rattle.document_reader.specs.declared.kinds.RayQueryKind.{RayQueryKind}
use Rattle.document_reader.specs.declared.kinds.RayQueryKind.TheVariants as ray_query_kind
use Rattle.document_reader.specs.declared.kinds.PipelineKind.{PipelineKind}
use Rattle.document_reader.specs.declared.kinds.PipelineKind.TheVariants as pipeline_kind
use Rattle.document_reader.specs.declared.kinds.StatementKind.{StatementKind}
use Rattle.document_reader.specs.declared.kinds.StatementKind.TheVariants as statement_kind

-- the kinds of switch values
abbrev pub value_kinds : List (List ℕ × ValueKind)
value_kinds =
    (codes "I32", value_kind.I32) ∷
    (codes "U32", value_kind.U32) ∷
    (codes "Default", value_kind.Default) ∷
    []

-- the kinds of atomic functions
abbrev pub atomic_kinds : List (List ℕ × AtomicKind)
atomic_kinds =
    (codes "Add", atomic_kind.Add) ∷
    (codes "Subtract", atomic_kind.Subtract) ∷
    (codes "And", atomic_kind.And) ∷
    (codes "ExclusiveOr", atomic_kind.ExclusiveOr) ∷
    (codes "InclusiveOr", atomic_kind.InclusiveOr) ∷
    (codes "Min", atomic_kind.Min) ∷
    (codes "Max", atomic_kind.Max) ∷
    (codes "Exchange", atomic_kind.Exchange) ∷
    []

-- the gather modes
abbrev pub gather_kinds : List (List ℕ × GatherKind)
gather_kinds =
    (codes "BroadcastFirst", gather_kind.BroadcastFirst) ∷
    (codes "Broadcast", gather_kind.Broadcast) ∷
    (codes "Shuffle", gather_kind.Shuffle) ∷
    (codes "ShuffleDown", gather_kind.ShuffleDown) ∷
    (codes "ShuffleUp", gather_kind.ShuffleUp) ∷
    (codes "ShuffleXor", gather_kind.ShuffleXor) ∷
    (codes "QuadBroadcast", gather_kind.QuadBroadcast) ∷
    (codes "QuadSwap", gather_kind.QuadSwap) ∷
    []

-- the ray query functions
abbrev pub ray_query_kinds : List (List ℕ × RayQueryKind)
ray_query_kinds =
    (codes "Initialize", ray_query_kind.Initialize) ∷
    (codes "Proceed", ray_query_kind.Proceed) ∷
    (codes "GenerateIntersection", ray_query_kind.GenerateIntersection) ∷
    (codes "ConfirmIntersection", ray_query_kind.ConfirmIntersection) ∷
    (codes "Terminate", ray_query_kind.Terminate) ∷
    []

-- the ray pipeline functions
abbrev pub pipeline_kinds : List (List ℕ × PipelineKind)
pipeline_kinds =
    (codes "TraceRay", pipeline_kind.TraceRay) ∷
    []

-- the kinds of statements
abbrev pub statement_kinds : List (List ℕ × StatementKind)
statement_kinds =
    (codes "Emit", statement_kind.Emit) ∷
    (codes "Store", statement_kind.Store) ∷
    (codes "If", statement_kind.If) ∷
    (codes "Return", statement_kind.Return) ∷
    (codes "Call", statement_kind.Call) ∷
    (codes "Block", statement_kind.Block) ∷
    (codes "Break", statement_kind.Break) ∷
    (codes "Loop", statement_kind.Loop) ∷
    (codes "Switch", statement_kind.Switch) ∷
    (codes "Continue", statement_kind.Continue) ∷
    (codes "Kill", statement_kind.Kill) ∷
    (codes "ControlBarrier", statement_kind.ControlBarrier) ∷
    (codes "MemoryBarrier", statement_kind.MemoryBarrier) ∷
    (codes "ImageStore", statement_kind.ImageStore) ∷
    (codes "Atomic", statement_kind.Atomic) ∷
    (codes "ImageAtomic", statement_kind.ImageAtomic) ∷
    (codes "WorkGroupUniformLoad", statement_kind.WorkGroupUniformLoad) ∷
    (codes "RayQuery", statement_kind.RayQuery) ∷
    (codes "SubgroupBallot", statement_kind.SubgroupBallot) ∷
    (codes "SubgroupCollectiveOperation", statement_kind.SubgroupCollectiveOperation) ∷
    (codes "SubgroupGather", statement_kind.SubgroupGather) ∷
    (codes "CooperativeStore", statement_kind.CooperativeStore) ∷
    (codes "RayPipelineFunction", statement_kind.RayPipelineFunction) ∷
    []
