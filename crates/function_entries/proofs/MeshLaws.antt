-- What a variable implies is one thing.
use Rattle.std.proofs.Common.{◌≡◌, inl, inr, ℕ, List, [], ◌∷◌, Option, Some, None, slice_get, refl, sym, ap, subst, ◌∙◌}
use Rattle.std.specs.Prelude.{option_and_then}
use Rattle.std.proofs.lemmas.Option.{same_Some}
use Rattle.function_entry_checks.specs.Faults.{IsRefusedFor}
use Rattle.function_entry_checks.specs.declared.error.EntryPointError.{EntryPointError}
use Rattle.function_entry_checks.specs.declared.error.EntryPointError.TheVariants as error
use Rattle.function_entries.specs.Interfaces.{ArePartsAt}
use Rattle.function_entries.specs.MeshFaults.{AreSame, HasBadField, HasBadPrimitives, IsImpliedFault, IsSaidFault}
use Rattle.function_entries.specs.MeshFields.{HasFields}
use Rattle.function_entries.specs.declared.meshes.Fields.{Fields}
use Rattle.ir_types.specs.found.Faults.{error_of}
use Rattle.ir_types.specs.declared.refusal.Refusal.{Refusal}
use Rattle.ir_types.specs.declared.refusal.Refusal.TheVariants as refusal
use Rattle.ir_items.specs.judged.GlobalPlain.{PlainGlobal}
use Rattle.ir_items.specs.judged.Plain.{PlainModule}
use Rattle.ir_items.specs.declared.entries.MeshStageInfo.{MeshStageInfo}
use Rattle.ir_kinds.specs.declared.stages.MeshOutputTopology.{MeshOutputTopology}
use Rattle.ir_kinds.specs.declared.stages.MeshOutputTopology.TheVariants.{Triangles}
use Rattle.ir_types.specs.judged.Plain.{PlainMember, PlainType}
use Rattle.ir_types.specs.declared.types.ArraySize.{ArraySize}
use Rattle.spec_interface.specs.judged.Members.{members_at, topologies_at, types_bound}
use Rattle.spec_interface.specs.judged.Meshes.{AreParts, FieldsOK, HasParts, HoldsMost, ImpliesMeshInfo, IsSaid, GivenByOverride, most}
use Rattle.spec_interface.specs.found.Meshes.{IsCount, variable_members, without_overrides}
use Rattle.spec_interface.specs.declared.parts.MeshPart.{MeshPart}
use Rattle.spec_interface.specs.declared.parts.MeshPart.TheVariants.{VertexCount, Vertices, PrimitiveCount, Primitives}
use Rattle.spec_interface.specs.declared.parts.MeshParts.{MeshParts}

one_is : {A : Type 0} {x y : A} → x ∷ [] ≡ y ∷ [] → x ≡ y
one_is e = cc (e)

-- ---- parts

-- two that have the same members are the same, field by field
pub record AreSameParts (s t : MeshParts) : Type 0 where
  pub vertex_count : s.vertex_count ≡ t.vertex_count
  pub vertices : s.vertices ≡ t.vertices
  pub primitive_count : s.primitive_count ≡ t.primitive_count
  pub primitives : s.primitives ≡ t.primitives

module _ (m : PlainModule) (variable : ℕ) (s t : MeshParts) (a : HasParts m variable s) (b : HasParts m variable t) where
  same_members : a.members ≡ b.members
  same_members = same_Some _ _ (sym a.struct ∙ b.struct)

  same_part : (part : MeshPart) (x y : ℕ) → types_bound part a.members ≡ x ∷ [] → types_bound part b.members ≡ y ∷ [] → x ≡ y
  same_part part x y p q = one_is (sym p ∙ (ap (types_bound part) same_members ∙ q))

  pub same_parts : AreSameParts s t
  same_parts = record {
    vertex_count = same_part VertexCount s.vertex_count t.vertex_count a.parts.vertex_count b.parts.vertex_count;
    vertices = same_part Vertices s.vertices t.vertices a.parts.vertices b.parts.vertices;
    primitive_count = same_part PrimitiveCount s.primitive_count t.primitive_count a.parts.primitive_count b.parts.primitive_count;
    primitives = same_part Primitives s.primitives t.primitives a.parts.primitives b.parts.primitives;
  }

pub fields_as : (types : List PlainType) (s t : MeshParts) → AreSameParts s t → (i : MeshStageInfo) (vb pb : Option ℕ) → FieldsOK types s i vb pb → FieldsOK types t i vb pb
fields_as types s t same i vb pb f = record {
  vertex_count = subst (IsCount types) same.vertex_count f.vertex_count;
  primitive_count = subst (IsCount types) same.primitive_count f.primitive_count;
  vertices = subst (λ n. HoldsMost types n i.vertex_output_type i.max_vertices vb) same.vertices f.vertices;
  primitives = subst (λ n. HoldsMost types n i.primitive_output_type i.max_primitives pb) same.primitives f.primitives;
}

-- ---- arrays

module _ (types : List PlainType) (type x y n k : ℕ) (by also : Option ℕ) (a : HoldsMost types type x n by) (b : HoldsMost types type y k also) where
  pub same_element : x ≡ y
  same_element = ap (λ (p : ℕ × ArraySize). p.0) (same_Some _ _ (sym a.array ∙ b.array))

  same_size : a.size ≡ b.size
  same_size = ap (λ (p : ℕ × ArraySize). p.1) (same_Some _ _ (sym a.array ∙ b.array))

  pub same_number : n ≡ k
  same_number = ap (λ (p : ℕ × Option ℕ). p.0) (same_Some _ _ (sym a.counted ∙ (ap most same_size ∙ b.counted)))

  pub same_by : by ≡ also
  same_by = ap (λ (p : ℕ × Option ℕ). p.1) (same_Some _ _ (sym a.counted ∙ (ap most same_size ∙ b.counted)))

-- ---- the whole

pub record AreSameImplied (i j : MeshStageInfo) (vb pb wb qb : Option ℕ) : Type 0 where
  pub info : AreSame i j
  pub vertices_by : vb ≡ wb
  pub primitives_by : pb ≡ qb

module _ (m : PlainModule) (variable : ℕ) (i j : MeshStageInfo) (vb pb wb qb : Option ℕ) (a : ImpliesMeshInfo m variable i vb pb) (b : ImpliesMeshInfo m variable j wb qb) where
  f : FieldsOK m.types b.types i vb pb
  f = fields_as m.types a.types b.types (same_parts m variable a.types b.types a.parts b.parts) i vb pb a.fields

  same_primitive : i.primitive_output_type ≡ j.primitive_output_type
  same_primitive = same_element m.types b.types.primitives i.primitive_output_type j.primitive_output_type i.max_primitives j.max_primitives pb qb f.primitives b.fields.primitives

  pub same_implied : AreSameImplied i j vb pb wb qb
  same_implied = record {
    info = record {
      topology = one_is (sym a.topology ∙ (ap (λ n. topologies_at m.types n) same_primitive ∙ b.topology));
      vertices = same_number m.types b.types.vertices i.vertex_output_type j.vertex_output_type i.max_vertices j.max_vertices vb wb f.vertices b.fields.vertices;
      primitives = same_number m.types b.types.primitives i.primitive_output_type j.primitive_output_type i.max_primitives j.max_primitives pb qb f.primitives b.fields.primitives;
      vertex = same_element m.types b.types.vertices i.vertex_output_type j.vertex_output_type i.max_vertices j.max_vertices vb wb f.vertices b.fields.vertices;
      primitive = same_primitive;
    };
    vertices_by = same_by m.types b.types.vertices i.vertex_output_type j.vertex_output_type i.max_vertices j.max_vertices vb wb f.vertices b.fields.vertices;
    primitives_by = same_by m.types b.types.primitives i.primitive_output_type j.primitive_output_type i.max_primitives j.max_primitives pb qb f.primitives b.fields.primitives;
  }

-- what is implied, said otherwise where that is the same
module _ (m : PlainModule) (variable : ℕ) (i j : MeshStageInfo) (vb pb : Option ℕ) (a : ImpliesMeshInfo m variable i vb pb) (same : AreSame i j) where
  pub implied_as : j.output_variable ≡ variable → j.max_vertices_override ≡ None → j.max_primitives_override ≡ None → ImpliesMeshInfo m variable j vb pb
  implied_as held no_vertices no_primitives = record {
    types = a.types;
    parts = a.parts;
    fields = record {
      vertex_count = a.fields.vertex_count;
      primitive_count = a.fields.primitive_count;
      vertices = subst (λ n. HoldsMost m.types a.types.vertices n j.max_vertices vb) same.vertex (subst (λ n. HoldsMost m.types a.types.vertices i.vertex_output_type n vb) same.vertices a.fields.vertices);
      primitives = subst (λ n. HoldsMost m.types a.types.primitives n j.max_primitives pb) same.primitive (subst (λ n. HoldsMost m.types a.types.primitives i.primitive_output_type n pb) same.primitives a.fields.primitives);
    };
    topology = ap (λ n. topologies_at m.types n) (sym same.primitive) ∙ (a.topology ∙ ap (λ (t : MeshOutputTopology). t ∷ []) same.topology);
    held = held;
    vertices_unsaid = no_vertices;
    primitives_unsaid = no_primitives;
  }

-- ---- what is said

module _ (m : PlainModule) (i said : MeshStageInfo) (vb pb : Option ℕ) (a : ImpliesMeshInfo m said.output_variable i vb pb) where
  -- all is said as it is implied
  pub is_said : AreSame i said → GivenByOverride m said.max_vertices_override vb → GivenByOverride m said.max_primitives_override pb → IsSaid m said
  is_said same vertices primitives = record {
    vertices_by = vb;
    primitives_by = pb;
    implied = implied_as m said.output_variable i (without_overrides said) vb pb a
        (record { topology = same.topology; vertices = same.vertices; primitives = same.primitives; vertex = same.vertex; primitive = same.primitive }) refl refl refl;
    vertices = vertices;
    primitives = primitives;
  }

  as_said : (s : IsSaid m said) → AreSameImplied i (without_overrides said) vb pb s.vertices_by s.primitives_by
  as_said s = same_implied m said.output_variable i (without_overrides said) vb pb s.vertices_by s.primitives_by a s.implied

  pub unlike : (AreSame i said → ⊥) → IsSaid m said → ⊥
  unlike differ s = let e = (as_said s).info in
      differ (record { topology = e.topology; vertices = e.vertices; primitives = e.primitives; vertex = e.vertex; primitive = e.primitive })

  pub vertices_unlike : (GivenByOverride m said.max_vertices_override vb → ⊥) → IsSaid m said → ⊥
  vertices_unlike differ s = differ (subst (GivenByOverride m said.max_vertices_override) (sym (as_said s).vertices_by) s.vertices)

  pub primitives_unlike : (GivenByOverride m said.max_primitives_override pb → ⊥) → IsSaid m said → ⊥
  primitives_unlike differ s = differ (subst (GivenByOverride m said.max_primitives_override) (sym (as_said s).primitives_by) s.primitives)

  -- something else is implied
  pub otherwise : (IsSaid m said → ⊥) → IsSaidFault m said error.BadMeshOutputVariableType
  otherwise differs = inr (record { info = i; vertices_by = vb; primitives_by = pb; implied = a; differs = differs })

-- ---- faults

pub bad_primitives_of : (m : PlainModule) (variable : ℕ) (members : List PlainMember) (t : MeshParts) (vertex vertices primitive primitives : ℕ) (vb pb : Option ℕ)
    → variable_members m variable ≡ Some members → AreParts members t
    → IsCount m.types t.vertex_count × IsCount m.types t.primitive_count × HoldsMost m.types t.vertices vertex vertices vb × HoldsMost m.types t.primitives primitive primitives pb
    → ((topology : MeshOutputTopology) → topologies_at m.types primitive ≡ topology ∷ [] → ⊥) → HasBadPrimitives m variable
bad_primitives_of m variable members t vertex vertices primitive primitives vb pb struct parts fields bad = record {
  types = t;
  parts = record { members = members; struct = struct; parts = parts };
  info = record {
    topology = Triangles;
    max_vertices = vertices;
    max_vertices_override = None;
    max_primitives = primitives;
    max_primitives_override = None;
    vertex_output_type = vertex;
    primitive_output_type = primitive;
    output_variable = variable;
  };
  vertices_by = vb;
  primitives_by = pb;
  fields = record { vertex_count = fields.0; primitive_count = fields.1; vertices = fields.2; primitives = fields.3 };
  bad = bad;
}

module _ (m : PlainModule) (said : MeshStageInfo) where
  bad_field : HasBadField m said.output_variable → IsSaid m said → ⊥
  bad_field b s =
      let same = same_parts m said.output_variable s.implied.types b.types s.implied.parts b.parts in
      b.bad (without_overrides said) s.vertices_by s.primitives_by (fields_as m.types s.implied.types b.types same (without_overrides said) s.vertices_by s.primitives_by s.implied.fields)

  bad_primitives : HasBadPrimitives m said.output_variable → IsSaid m said → ⊥
  bad_primitives b s =
      let same = same_parts m said.output_variable b.types s.implied.types b.parts s.implied.parts in
      let f = fields_as m.types b.types s.implied.types same b.info b.vertices_by b.primitives_by b.fields in
      let e = same_element m.types s.implied.types.primitives b.info.primitive_output_type said.primitive_output_type b.info.max_primitives said.max_primitives b.primitives_by s.primitives_by f.primitives s.implied.fields.primitives in
      b.bad said.topology (ap (λ n. topologies_at m.types n) e ∙ s.implied.topology)

  -- what is wrong with the variable is wrong with what is said
  pub said_fault : (x : EntryPointError) → IsImpliedFault m said.output_variable x → IsSaidFault m said x
  said_fault error.BadMeshOutputVariableType none = inl none
  said_fault error.BadMeshOutputVariableField b = b
  said_fault error.InvalidMeshPrimitiveOutputType b = b
  said_fault _ b = absurd b

  pub said_refuted : (x : EntryPointError) → IsSaidFault m said x → IsSaid m said → ⊥
  said_refuted error.BadMeshOutputVariableType (inl none) s = none s.implied.types s.implied.parts
  said_refuted error.BadMeshOutputVariableType (inr other) s = other.differs s
  said_refuted error.BadMeshOutputVariableField fault s = bad_field fault s
  said_refuted error.InvalidMeshPrimitiveOutputType fault s = bad_primitives fault s
  said_refuted _ fault s = absurd fault

-- ---- parts of a variable, by its type

module _ (m : PlainModule) (variable : ℕ) (v : PlainGlobal) (at : slice_get m.globals variable ≡ Some v) where
  members_by : variable_members m variable ≡ members_at m.types v.ty
  members_by = ap (option_and_then (λ (g : PlainGlobal). members_at m.types g.ty)) at

  pub variable_parts : (t : MeshParts) → ArePartsAt m.types v.ty t → HasParts m variable t
  variable_parts t a = record { members = a.members; struct = members_by ∙ a.struct; parts = a.parts }

  pub no_parts : ((t : MeshParts) → ArePartsAt m.types v.ty t → ⊥) → (t : MeshParts) → HasParts m variable t → ⊥
  no_parts none t a = none t (record { members = a.members; struct = sym members_by ∙ a.struct; parts = a.parts })

pub bad_primitives_by : (m : PlainModule) (variable : ℕ) (f : Fields) → HasFields m variable f → ((topology : MeshOutputTopology) → topologies_at m.types f.primitives.element ≡ topology ∷ [] → ⊥) → HasBadPrimitives m variable
bad_primitives_by m variable f h bad =
    bad_primitives_of m variable h.parts.members h.types f.vertices.element f.vertices.most f.primitives.element f.primitives.most f.vertices.by f.primitives.by h.parts.struct h.parts.parts
    (h.vertex_count, h.primitive_count, h.vertices, h.primitives) bad

pub said_refused : (m : PlainModule) (said : MeshStageInfo) (x : Refusal EntryPointError) → IsRefusedFor (IsImpliedFault m said.output_variable) x → IsRefusedFor (IsSaidFault m said) x
said_refused m said (refusal.Memory a) h = tt
said_refused m said (refusal.Fault f) h = (said_fault m said (error_of f) h.0, h.1)
