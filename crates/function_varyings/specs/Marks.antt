-- Marks, of which no two varyings of an entry point may have the same, by numbers in words.
use Rattle.std.specs.Prelude.{◌≡◌, ◌<◌, ◌≤◌, ◌+◌, ◌/◌, ◌%◌, ℕ, List, Some, length, slice_get, true, false}
use Rattle.std.specs.BTreeMap.{BTreeMap, get}
use Rattle.std.specs.Int.{bit_at}
use Rattle.std.specs.Ordering.{nat_cmp}
use Rattle.ir_flags.specs.Sets.{Has}
use Rattle.ir_flags.specs.declared.settings.ValidationFlags.{ValidationFlags}
use Rattle.ir_flags.specs.declared.settings.TheConstants.ValidationFlags.{BINDINGS}
use Rattle.ir_kinds.specs.declared.bindings.BuiltIn.{BuiltIn}
use Rattle.ir_kinds.specs.declared.bindings.BuiltIn.TheVariants.{PrimitiveIndex, Position, ViewIndex, BaseInstance, BaseVertex, ClipDistances, CullDistance, InstanceIndex, PointSize, VertexIndex, DrawIndex, FragDepth, PointCoord, FrontFacing, Barycentric, SampleIndex, SampleMask, GlobalInvocationId, LocalInvocationId, LocalInvocationIndex, WorkGroupId, WorkGroupSize, NumWorkGroups, NumSubgroups, SubgroupId, SubgroupSize, SubgroupInvocationId, MeshTaskSize, CullPrimitive, PointIndex, LineIndices, TriangleIndices, VertexCount, Vertices, PrimitiveCount, Primitives, RayInvocationId, NumRayInvocations, InstanceCustomData, GeometryIndex, WorldRayOrigin, WorldRayDirection, ObjectRayOrigin, ObjectRayDirection, RayTmin, RayTCurrentMax, ObjectToWorld, WorldToObject, HitKind}
use Rattle.ir_sets.specs.Bits.{has_bit}
use Rattle.ir_types.specs.judged.Plain.{PlainType}
use Rattle.spec_interface.specs.judged.Varyings.{mesh_varyings}
use Rattle.spec_interface.specs.declared.varyings.Bound.{Bound}
use Rattle.spec_interface.specs.declared.varyings.Bound.TheVariants.{BuiltIn as built_in, Location as at_location, BlendSources, Nothing, NoMember}
use Rattle.spec_interface.specs.declared.varyings.Varying.{Varying}
use Rattle.function_varyings.specs.declared.marks.Marks.{Marks}
use Rattle.function_varyings.specs.declared.marks.Part.{Part}
use Rattle.function_varyings.specs.declared.marks.Word.{Word}

-- ---- marks

-- the number of a built-in, without its fields
abbrev pub built_in_number : BuiltIn → ℕ
built_in_number PrimitiveIndex = 0
built_in_number (Position invariant) = 1
built_in_number ViewIndex = 2
built_in_number BaseInstance = 3
built_in_number BaseVertex = 4
built_in_number ClipDistances = 5
built_in_number CullDistance = 6
built_in_number InstanceIndex = 7
built_in_number PointSize = 8
built_in_number VertexIndex = 9
built_in_number DrawIndex = 10
built_in_number FragDepth = 11
built_in_number PointCoord = 12
built_in_number FrontFacing = 13
built_in_number (Barycentric perspective) = 14
built_in_number SampleIndex = 15
built_in_number SampleMask = 16
built_in_number GlobalInvocationId = 17
built_in_number LocalInvocationId = 18
built_in_number LocalInvocationIndex = 19
built_in_number WorkGroupId = 20
built_in_number WorkGroupSize = 21
built_in_number NumWorkGroups = 22
built_in_number NumSubgroups = 23
built_in_number SubgroupId = 24
built_in_number SubgroupSize = 25
built_in_number SubgroupInvocationId = 26
built_in_number MeshTaskSize = 27
built_in_number CullPrimitive = 28
built_in_number PointIndex = 29
built_in_number LineIndices = 30
built_in_number TriangleIndices = 31
built_in_number VertexCount = 32
built_in_number Vertices = 33
built_in_number PrimitiveCount = 34
built_in_number Primitives = 35
built_in_number RayInvocationId = 36
built_in_number NumRayInvocations = 37
built_in_number InstanceCustomData = 38
built_in_number GeometryIndex = 39
built_in_number WorldRayOrigin = 40
built_in_number WorldRayDirection = 41
built_in_number ObjectRayOrigin = 42
built_in_number ObjectRayDirection = 43
built_in_number RayTmin = 44
built_in_number RayTCurrentMax = 45
built_in_number ObjectToWorld = 46
built_in_number WorldToObject = 47
built_in_number HitKind = 48

-- the mark of a built-in is its number; a location has one, above these, if locations must be distinct
abbrev pub Takes : ValidationFlags → Bound → (mark : ℕ) → Type 0
Takes flags (built_in type b) mark = built_in_number b ≡ mark
Takes flags (at_location type l) mark = Has flags.0 BINDINGS.0 × (64 + l.location ≡ mark)
Takes flags BlendSources mark = Has flags.0 BINDINGS.0 × (64 ≡ mark)
Takes flags Nothing mark = ⊥
Takes flags (NoMember place) mark = ⊥

-- the varying at an index has it
abbrev pub TakesAt : ValidationFlags → List Varying → (place mark : ℕ) → Type 0
TakesAt flags vs place mark = (v : Varying) × (slice_get vs place ≡ Some v) × Takes flags v.bound mark

-- ---- numbers of marks

abbrev pub IsNumber : BTreeMap ℕ ℕ → (mark n : ℕ) → Type 0
IsNumber numbers mark n = get nat_cmp numbers mark ≡ Some n

-- the number of each mark is unchanged
abbrev pub KeepsNumbers : BTreeMap ℕ ℕ → BTreeMap ℕ ℕ → Type 0
KeepsNumbers old new = (mark n : ℕ) → IsNumber old mark n → IsNumber new mark n

-- ---- numbers in words

abbrev pub IsIn : Word → ℕ → Type 0
IsIn w n = (w.index ≡ n / 64) × (bit_at w.bits (n % 64) ≡ 1)

-- in a word of the range
abbrev pub IsAmong : List Word → (from end n : ℕ) → Type 0
IsAmong words from end n = (k : ℕ) × (w : Word) × (from ≤ k) × (k < end) × (slice_get words k ≡ Some w) × IsIn w n

-- each word keeps its index
abbrev pub KeepsWords : List Word → List Word → Type 0
KeepsWords old new = (k : ℕ) (w : Word) → slice_get old k ≡ Some w → slice_get new k ≡ Some w

-- each number in words remains
abbrev pub KeepsBits : List ℕ → List ℕ → Type 0
KeepsBits old new = (n : ℕ) → has_bit old n ≡ true → has_bit new n ≡ true

-- ---- what is known

-- a part of the words has the numbers of all marks of the varyings
pub record IsPartOf (flags : ValidationFlags) (numbers : BTreeMap ℕ ℕ) (words : List Word) (vs : List Varying) (p : Part) : Type 0 where
  pub within : p.end ≤ length words
  pub numbered : (place mark : ℕ) → TakesAt flags vs place mark → (n : ℕ) × IsNumber numbers mark n × IsAmong words p.from p.end n

-- each noted part is that of the members of its type
abbrev pub AreMarksOf : ValidationFlags → List PlainType → Marks → Type 0
AreMarksOf flags types m = (type : ℕ) (p : Part) → get nat_cmp m.parts type ≡ Some p → IsPartOf flags m.numbers m.words.items (mesh_varyings types type) p

-- the words have the numbers of all marks of the varyings
abbrev pub AreTaken : ValidationFlags → BTreeMap ℕ ℕ → (taken : List ℕ) → List Varying → Type 0
AreTaken flags numbers taken vs = (place mark : ℕ) → TakesAt flags vs place mark → (n : ℕ) × IsNumber numbers mark n × (has_bit taken n ≡ true)

-- and other words do not
abbrev pub AreNewlyTaken : ValidationFlags → BTreeMap ℕ ℕ → (old new : List ℕ) → List Varying → Type 0
AreNewlyTaken flags numbers old new vs = (place mark : ℕ) → TakesAt flags vs place mark → (n : ℕ) × IsNumber numbers mark n × (has_bit new n ≡ true) × (has_bit old n ≡ false)
