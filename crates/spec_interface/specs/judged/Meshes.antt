-- Mesh shader outputs, in the output variable.
use Rattle.std.specs.Prelude.{◌≡◌, ℕ, List, [], ◌∷◌, Option, Some, None, false, IsSome, option_and_then, slice_get}
use Rattle.ir_types.specs.judged.ExpressionPlain.{PlainExpression, plain as plain_expression}
use Rattle.ir_types.specs.declared.expressions.Expression.TheVariants.{Override}
use Rattle.ir_flags.specs.Sets.{Has}
use Rattle.ir_flags.specs.declared.settings.Capabilities.{Capabilities}
use Rattle.ir_flags.specs.declared.settings.TheConstants.Capabilities.{MESH_SHADER_POINT_TOPOLOGY}
use Rattle.ir_flags.specs.declared.settings.ValidationFlags.{ValidationFlags}
use Rattle.ir_items.specs.judged.GlobalPlain.{PlainGlobal}
use Rattle.ir_items.specs.judged.Plain.{PlainEntry, PlainModule}
use Rattle.ir_items.specs.declared.entries.MeshStageInfo.{MeshStageInfo}
use Rattle.ir_kinds.specs.declared.bindings.BuiltIn.TheVariants.{Position}
use Rattle.ir_kinds.specs.declared.scalars.TheConstants.Scalar.{U32}
use Rattle.ir_kinds.specs.declared.spaces.AddressSpace.TheVariants.{WorkGroup}
use Rattle.ir_kinds.specs.declared.stages.MeshOutputTopology.TheVariants.{Points}
use Rattle.ir_types.specs.judged.Plain.{PlainInner, plain, PlainMember, PlainType}
use Rattle.ir_types.specs.declared.types.ArraySize.{ArraySize}
use Rattle.ir_types.specs.declared.types.ArraySize.TheVariants as count
use Rattle.ir_types.specs.declared.types.TypeInner.TheVariants as inner
use Rattle.spec_interface.specs.judged.Members.{members_at, topologies_at, types_bound}
use Rattle.spec_interface.specs.judged.Payloads.{space_at}
use Rattle.spec_interface.specs.declared.parts.MeshPart.TheVariants.{VertexCount, Vertices, PrimitiveCount, Primitives}
use Rattle.spec_interface.specs.declared.parts.MeshParts.{MeshParts}
use Rattle.spec_interface.specs.judged.Varyings.{HasBuiltIn, VaryingsOK, mesh_varyings}
use Rattle.spec_interface.specs.judged.Contexts.{context_of}
use Rattle.typing_forms.specs.judged.Forms.{form_of_type}
use Rattle.typing_forms.specs.judged.Resolutions.{inner_at}
use Rattle.typing_forms.specs.declared.form.Form.TheVariants as form
use Rattle.spec_interface.specs.declared.varyings.Direction.TheVariants.{VertexOutput, PrimitiveOutput}

-- ---- the four parts

-- each part is bound to exactly one member, of this type
pub record AreParts (members : List PlainMember) (t : MeshParts) : Type 0 where
  pub vertex_count : types_bound VertexCount members ≡ t.vertex_count ∷ []
  pub vertices : types_bound Vertices members ≡ t.vertices ∷ []
  pub primitive_count : types_bound PrimitiveCount members ≡ t.primitive_count ∷ []
  pub primitives : types_bound Primitives members ≡ t.primitives ∷ []

-- the variable is a struct with these four parts
pub record HasParts (m : PlainModule) (variable : ℕ) (t : MeshParts) : Type 0 where
  pub members : List PlainMember
  pub struct : option_and_then (λ (v : PlainGlobal). members_at m.types v.ty) (slice_get m.globals variable) ≡ Some members
  pub parts : AreParts members t

-- ---- maximum counts

-- the element type of an array, and its size
abbrev pub array_of : Option PlainInner → Option (ℕ × ArraySize)
array_of o = elim o [ Some (plain (inner.Array base size stride)) ↦ Some (base, size) | _ ↦ None ]

-- the maximum length, and the override that gives it, if one does; none for runtime-sized arrays
abbrev pub most : ArraySize → Option (ℕ × Option ℕ)
most o = elim o [ count.Constant n ↦ Some (n, None) | count.Pending override ↦ Some (0, Some override) | count.Dynamic ↦ None ]

-- an array of at most this many elements of this type
pub record HoldsMost (types : List PlainType) (type : ℕ) (element n : ℕ) (by : Option ℕ) : Type 0 where
  pub size : ArraySize
  pub array : array_of (inner_at types type) ≡ Some (element, size)
  pub counted : most size ≡ Some (n, by)

-- ---- implied mesh info

-- The types of the parts are as required: the counts are 32-bit unsigned integers, the others arrays of this type.
pub record FieldsOK (types : List PlainType) (t : MeshParts) (i : MeshStageInfo) (vertices_by primitives_by : Option ℕ) : Type 0 where
  pub vertex_count : form_of_type types t.vertex_count ≡ form.Scalar U32
  pub primitive_count : form_of_type types t.primitive_count ≡ form.Scalar U32
  pub vertices : HoldsMost types t.vertices i.vertex_output_type i.max_vertices vertices_by
  pub primitives : HoldsMost types t.primitives i.primitive_output_type i.max_primitives primitives_by

-- The mesh info that the output variable implies, without its overrides, and these overrides. A primitive has exactly one
-- indices member.
pub record ImpliesMeshInfo (m : PlainModule) (variable : ℕ) (i : MeshStageInfo) (vertices_by primitives_by : Option ℕ) : Type 0 where
  pub types : MeshParts
  pub parts : HasParts m variable types
  pub fields : FieldsOK m.types types i vertices_by primitives_by
  pub topology : topologies_at m.types i.primitive_output_type ≡ i.topology ∷ []
  pub held : i.output_variable ≡ variable
  pub vertices_unsaid : i.max_vertices_override ≡ None
  pub primitives_unsaid : i.max_primitives_override ≡ None

-- ---- the mesh info

-- the override that an expression is, if it is one
abbrev pub override_of : PlainExpression → Option ℕ
override_of e = elim e [ plain_expression (Override override) ↦ Some override | _ ↦ None ]

-- if a global expression for a count is given, and it is an override, it is the implied one
abbrev pub GivenByOverride : PlainModule → (given by : Option ℕ) → Type 0
GivenByOverride m given by = (e o : ℕ) → given ≡ Some e → option_and_then override_of (slice_get m.global_expressions e) ≡ Some o → by ≡ Some o

-- the mesh info is the implied one, except for overrides that it gives
pub record IsSaid (m : PlainModule) (i : MeshStageInfo) : Type 0 where
  pub vertices_by : Option ℕ
  pub primitives_by : Option ℕ
  pub implied : ImpliesMeshInfo m i.output_variable (record i { max_vertices_override = None; max_primitives_override = None }) vertices_by primitives_by
  pub vertices : GivenByOverride m i.max_vertices_override vertices_by
  pub primitives : GivenByOverride m i.max_primitives_override primitives_by

-- a valid vertex output type: a struct with a `Position`
pub record VertexOK (flags : ValidationFlags) (capabilities : Capabilities) (m : PlainModule) (e : PlainEntry) (type : ℕ) : Type 0 where
  pub struct : IsSome (members_at m.types type)
  pub given : VaryingsOK (context_of flags capabilities m e VertexOutput) (mesh_varyings m.types type)
  pub position : HasBuiltIn (mesh_varyings m.types type) (Position false)

-- a valid primitive output type: a struct
pub record PrimitiveOK (flags : ValidationFlags) (capabilities : Capabilities) (m : PlainModule) (e : PlainEntry) (type : ℕ) : Type 0 where
  pub struct : IsSome (members_at m.types type)
  pub given : VaryingsOK (context_of flags capabilities m e PrimitiveOutput) (mesh_varyings m.types type)

-- The output variable is in the workgroup space, and the mesh info is the implied one.
pub record MeshOK (flags : ValidationFlags) (capabilities : Capabilities) (m : PlainModule) (e : PlainEntry) (i : MeshStageInfo) : Type 0 where
  pub lies : space_at m i.output_variable ≡ Some WorkGroup
  pub said : IsSaid m i
  pub points : i.topology ≡ Points → Has capabilities.0 MESH_SHADER_POINT_TOPOLOGY.0
  pub vertex : VertexOK flags capabilities m e i.vertex_output_type
  pub primitive : PrimitiveOK flags capabilities m e i.primitive_output_type
