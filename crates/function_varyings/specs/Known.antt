-- Facts about types whose members were varyings before.
use Rattle.std.specs.Prelude.{◌≡◌, ◌↔◌, ◌+◌, ◌*◌, ℕ, Bool, true, false, IsTrue, List, Option}
use Rattle.std.specs.BTreeMap.{BTreeMap}
use Rattle.std.specs.BTreeSet.{BTreeSet, contains}
use Rattle.std.specs.Ordering.{nat_cmp, ordering_then}
use Rattle.std.specs.declared.cmp.Ordering.{Ordering}
use Rattle.ir_flags.specs.declared.settings.Capabilities.{Capabilities}
use Rattle.ir_flags.specs.declared.settings.ValidationFlags.{ValidationFlags}
use Rattle.ir_kinds.specs.declared.bindings.Binding.{Binding}
use Rattle.ir_kinds.specs.declared.bindings.BuiltIn.TheVariants.{Position}
use Rattle.ir_kinds.specs.declared.stages.ShaderStage.{ShaderStage}
use Rattle.ir_kinds.specs.declared.stages.ShaderStage.TheVariants.{Vertex, Fragment, Compute, Mesh, Task, RayGeneration, AnyHit, ClosestHit, Miss}
use Rattle.ir_types.specs.judged.Plain.{PlainType}
use Rattle.spec_interface.specs.found.BuiltIns.{IsLinearWorkgroup, HasNoTaskPayload}
use Rattle.spec_interface.specs.judged.Contexts.{VaryingContext}
use Rattle.spec_interface.specs.judged.Varyings.{HasBlendSources, HasBuiltIn, VaryingsOK, mesh_varyings, varyings_of}
use Rattle.spec_interface.specs.declared.varyings.Direction.{Direction}
use Rattle.spec_interface.specs.declared.varyings.Direction.TheVariants.{Input, Output, VertexOutput, PrimitiveOutput}
use Rattle.spec_interface.specs.declared.varyings.Varying.{Varying}
use Rattle.function_varyings.specs.Marks.{AreMarksOf, AreNewlyTaken}
use Rattle.function_varyings.specs.declared.known.KnownTypes.{KnownTypes}
use Rattle.function_varyings.specs.declared.known.Shown.{Shown}
use Rattle.function_varyings.specs.declared.known.Way.{Way}

-- ---- directions and stages, as numbers

abbrev pub stage_number : ShaderStage → ℕ
stage_number Vertex = 0
stage_number Fragment = 1
stage_number Compute = 2
stage_number Mesh = 3
stage_number Task = 4
stage_number RayGeneration = 5
stage_number AnyHit = 6
stage_number ClosestHit = 7
stage_number Miss = 8

abbrev pub direction_number : Direction → ℕ
direction_number Input = 0
direction_number Output = 1
direction_number VertexOutput = 2
direction_number PrimitiveOutput = 3

abbrev pub digit : Bool → ℕ
digit false = 0
digit true = 1

-- a direction, a stage and facts, as one number
abbrev pub number_of : Way → Shown → ℕ
number_of w s = digit s.blended + 2 * (digit s.positioned + 2 * (digit w.rows + 2 * (digit w.ahead + 2 * (direction_number w.direction + 4 * stage_number w.stage))))

-- ---- what is known

-- the inputs of the conditions of built-ins, besides types and capabilities
pub record IsWayOf (c : VaryingContext) (w : Way) : Type 0 where
  pub stage : w.stage ≡ c.stage
  pub direction : w.direction ≡ c.direction
  pub ahead : IsTrue w.ahead ↔ HasNoTaskPayload c
  pub rows : IsTrue w.rows ↔ IsLinearWorkgroup c.sizes

pub record IsShownBy (vs : List Varying) (s : Shown) : Type 0 where
  pub positioned : IsTrue s.positioned ↔ HasBuiltIn vs (Position false)
  pub blended : IsTrue s.blended ↔ HasBlendSources vs

abbrev pub pair_cmp : ℕ × ℕ → ℕ × ℕ → Ordering
pair_cmp p q = ordering_then (nat_cmp p.0 q.0) (nat_cmp p.1 q.1)

abbrev pub IsNoted : BTreeSet (ℕ × ℕ) → (type : ℕ) → Way → Shown → Type 0
IsNoted seen type w s = IsTrue (contains pair_cmp seen (type, number_of w s))

-- The members of each noted type are valid varyings in that direction and stage, with these facts.
abbrev pub AreNotedFor : ValidationFlags → Capabilities → List PlainType → BTreeSet (ℕ × ℕ) → Type 0
AreNotedFor flags capabilities types seen = (c : VaryingContext) (w : Way) (type : ℕ) (s : Shown) → c.flags ≡ flags → c.capabilities ≡ capabilities → c.types ≡ types → IsWayOf c w
    → IsNoted seen type w s → VaryingsOK c (mesh_varyings types type) × IsShownBy (mesh_varyings types type) s

abbrev pub AreNotedIn : VaryingContext → BTreeSet (ℕ × ℕ) → Type 0
AreNotedIn c seen = AreNotedFor c.flags c.capabilities c.types seen

-- The facts hold in all checks with these flags and capabilities, for these types.
pub record AreKnownOf (flags : ValidationFlags) (capabilities : Capabilities) (types : List PlainType) (known : KnownTypes) : Type 0 where
  pub noted : AreNotedFor flags capabilities types known.seen
  pub marked : AreMarksOf flags types known.marks

abbrev pub AreKnown : VaryingContext → KnownTypes → Type 0
AreKnown c known = AreKnownOf c.flags c.capabilities c.types known

-- A value of a type with this binding is a valid argument by itself, and its marks were not taken before.
pub record IsNewlyGiven (c : VaryingContext) (numbers : BTreeMap ℕ ℕ) (old new : List ℕ) (type : ℕ) (b : Option Binding) : Type 0 where
  pub fine : VaryingsOK c (varyings_of c.types 0 type b)
  pub taken : AreNewlyTaken c.flags numbers old new (varyings_of c.types 0 type b)
