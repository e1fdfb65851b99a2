use Rattle.function_entries.proofs.meshes.fields_of.Goals as goal

pub returns-in-None : goal.returns-in-None
returns-in-None c = λ i vertices_by primitives_by fields. c.in-None.ensures i.vertex_output_type i.max_vertices vertices_by fields.vertices

pub returns-in-None-held_by : goal.returns-in-None-held_by
returns-in-None-held_by c = λ i vertices_by primitives_by fields. c.in-None-held_by.ensures i.primitive_output_type i.max_primitives primitives_by fields.primitives
