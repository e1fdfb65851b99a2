use Rattle.std.proofs.Common.{◌≡◌, ◌∷◌, [], map, subst, sym}
use Rattle.spec_interface.specs.judged.Members.{topologies_at}
use Rattle.function_entries.proofs.MeshLaws.{bad_primitives_of}
use Rattle.ir_items.specs.found.View.{module_view}
use Rattle.ir_types.specs.judged.Plain.{member_view}
use Rattle.function_entries.proofs.meshes.implied_mesh.Goals as goal

pub returns-in-None-topology_at : goal.returns-in-None-topology_at
returns-in-None-topology_at c =
    let f = c.in-Some-fields_of.fields in
    bad_primitives_of (module_view c.args.«module».now) c.args.variable (map member_view c.in-Some.members.now) c.in-Some-parts_of.parts f.vertices.element f.vertices.most f.primitives.element f.primitives.most f.vertices.by f.primitives.by
    c.in-Some.ensures c.in-Some-parts_of.ensures c.in-Some-fields_of.ensures
    (λ t e. c.in-None-topology_at.ensures t (subst (λ n. topologies_at (module_view c.args.«module».now).types n ≡ t ∷ []) (sym c.primitive_of.ensures) e))

pub returns-in-Some-topology_at : goal.returns-in-Some-topology_at
returns-in-Some-topology_at c =
    let f = c.in-Some-fields_of.ensures in
    c.implied_by.ensures (module_view c.args.«module».now)
    (record {
      types = c.in-Some-parts_of.parts;
      parts = record { members = map member_view c.in-Some.members.now; struct = c.in-Some.ensures; parts = c.in-Some-parts_of.ensures };
      vertex_count = f.0;
      primitive_count = f.1;
      vertices = f.2;
      primitives = f.3;
    })
    (subst (λ n. topologies_at (module_view c.args.«module».now).types n ≡ c.in-Some-topology_at.topology ∷ []) c.primitive_of.ensures c.in-Some-topology_at.ensures)
