-- Operands: how they are used and when they must be in scope, and functions of the operands of a kind. The rows of
-- kinds are in `Kinds.antt`.
use Rattle.std.specs.Prelude.{ℕ, Bool, true, false, if◌then◌else◌, List, ◌∷◌, map, filter, filter_map, Option, Some, None, []}
use Rattle.typing_layout.specs.IrTypes.{ImageQuery, Size, NumLevels, NumLayers, NumSamples, SampleLevel, Auto, Zero, Exact, Bias, Gradient}
use Rattle.ir_flags.specs.declared.stages.SubgroupOperationSet.{SubgroupOperationSet}
use Rattle.ir_flags.specs.declared.stages.TheConstants.SubgroupOperationSet.{BALLOT, SHUFFLE, SHUFFLE_RELATIVE, QUAD}
use Rattle.ir_items.specs.IrBlocks.{AtomicFunction, GatherMode, RayQueryFunction, RayPipelineFunction}
use Rattle.ir_items.specs.IrBlocks.does as does
use Rattle.ir_items.specs.IrBlocks.mode as mode
use Rattle.ir_items.specs.IrBlocks.ray as ray
use Rattle.ir_items.specs.IrBlocks.pipeline as pipeline
use Rattle.spec_expressions.specs.declared.operand.Scoping.{Scoping}
use Rattle.spec_expressions.specs.declared.operand.Scoping.TheVariants.{Always, Strictly, Apart}
use Rattle.spec_expressions.specs.declared.operand.Slot.{Slot}
use Rattle.spec_expressions.specs.declared.operand.Usage.{Usage}
use Rattle.spec_expressions.specs.declared.operand.Usage.TheVariants.{Read}

-- The operands of a kind: a few optional ones, or a list, each of which is read and must be in scope then.
pub data Operands : Type 0 where
  these : List Slot → Operands
  each_of : Scoping → List ℕ → Operands

-- ---- one operand

abbrev pub used : Usage → ℕ → Slot
used usage h = record { handle = Some h; usage = usage; scoping = Always }

abbrev pub reads : ℕ → Slot
reads h = used Read h

abbrev pub reads_if : Option ℕ → Slot
reads_if handle = record { handle = handle; usage = Read; scoping = Always }

abbrev pub scoped : Scoping → Slot → Slot
scoped when slot = record { handle = slot.handle; usage = slot.usage; scoping = when }

-- ---- expressions

-- the operands of a sample level, the first and the second
abbrev pub level_first : SampleLevel → Option ℕ
level_first Auto = None
level_first Zero = None
level_first (Exact level) = Some level
level_first (Bias bias) = Some bias
level_first (Gradient x y) = Some x

abbrev pub level_second : SampleLevel → Option ℕ
level_second Auto = None
level_second Zero = None
level_second (Exact level) = None
level_second (Bias bias) = None
level_second (Gradient x y) = Some y

-- the level at which the size of an image is queried
abbrev pub query_level : ImageQuery → Option ℕ
query_level (Size level) = level
query_level NumLevels = None
query_level NumLayers = None
query_level NumSamples = None

abbrev pub all_strictly : Operands → Operands
all_strictly operands = elim operands [ these slots ↦ these (map (scoped Strictly) slots) | each_of when handles ↦ each_of Strictly handles ]

-- ---- statements

-- the comparand of an atomic function
abbrev pub comparand : AtomicFunction → Option ℕ
comparand does.Add = None
comparand does.Subtract = None
comparand does.And = None
comparand does.ExclusiveOr = None
comparand does.InclusiveOr = None
comparand does.Min = None
comparand does.Max = None
comparand (does.Exchange compare) = compare

-- when the comparand of an atomic operation must be in scope: always if it has a result, otherwise under strict scope
abbrev pub where_answered : (result : Option ℕ) → Scoping
where_answered o = elim o [ Some result ↦ Always | None ↦ Strictly ]

-- A gather mode's row: its index, the required subgroup operations, and the index if it must be const.
pub record GatherRow : Type 0 where
  pub index : Option ℕ
  pub needs : SubgroupOperationSet
  pub constant : Option ℕ

abbrev pub gathers_by : (index : ℕ) → SubgroupOperationSet → GatherRow
gathers_by index needs = record { index = Some index; needs = needs; constant = None }

abbrev pub gather_row : GatherMode → GatherRow
gather_row mode.BroadcastFirst = record { index = None; needs = BALLOT; constant = None }
gather_row (mode.Broadcast index) = record (gathers_by index BALLOT) { constant = Some index }
gather_row (mode.Shuffle index) = gathers_by index SHUFFLE
gather_row (mode.ShuffleDown index) = gathers_by index SHUFFLE_RELATIVE
gather_row (mode.ShuffleUp index) = gathers_by index SHUFFLE_RELATIVE
gather_row (mode.ShuffleXor index) = gathers_by index SHUFFLE
gather_row (mode.QuadBroadcast index) = record (gathers_by index QUAD) { constant = Some index }
gather_row (mode.QuadSwap direction) = record { index = None; needs = QUAD; constant = None }

-- the index of a gather
abbrev pub gather_index : GatherMode → Option ℕ
gather_index mode = (gather_row mode).index

-- the operands of a ray query function, after the query
abbrev pub of_query : RayQueryFunction → List Slot
of_query (ray.Initialize acceleration_structure descriptor) = reads acceleration_structure ∷ reads descriptor ∷ []
of_query (ray.Proceed result) = []
of_query (ray.GenerateIntersection hit_t) = reads hit_t ∷ []
of_query ray.ConfirmIntersection = []
of_query ray.Terminate = []

abbrev pub of_pipeline : RayPipelineFunction → List Slot
of_pipeline (pipeline.TraceRay acceleration_structure descriptor payload) = reads acceleration_structure ∷ reads descriptor ∷ reads payload ∷ []

-- ---- derived from rows

-- the handles that are present
abbrev pub given : List (Option ℕ) → List ℕ
given [] = []
given (None ∷ rest) = given rest
given (Some handle ∷ rest) = handle ∷ given rest

-- all operands
abbrev pub handles_of : Operands → List ℕ
handles_of operands = elim operands [ these slots ↦ filter_map (λ (slot : Slot). slot.handle) slots | each_of when handles ↦ handles ]

-- whether an operand is checked for scope at its statement's place, with or without strict scope
abbrev pub is_looked_up : (strict : Bool) → Scoping → Bool
is_looked_up strict when = elim when [ Always ↦ true | Strictly ↦ strict | Apart ↦ false ]

-- the operands that are checked
abbrev pub looked_up : (strict : Bool) → Operands → List ℕ
looked_up strict (these slots) = handles_of (these (filter (λ (slot : Slot). is_looked_up strict slot.scoping) slots))
looked_up strict (each_of when handles) = if is_looked_up strict when then handles else []
