use Rattle.std.proofs.Common.{refl}
use Rattle.function_entries.proofs.meshes.implied_by.Goals as goal

pub returns : goal.returns
returns c = λ m f topology. record {
  types = f.types;
  parts = f.parts;
  fields = record { vertex_count = f.vertex_count; primitive_count = f.primitive_count; vertices = f.vertices; primitives = f.primitives };
  topology = topology;
  held = refl;
  vertices_unsaid = refl;
  primitives_unsaid = refl;
}
