-- Types without elements or members.
use Rattle.typing_layout.specs.judged.Tree.{Tree, scalar, vector, matrix, cooperative_matrix, atomic, pointer, value_pointer, array, struct, image, sampler, acceleration_structure, ray_query, binding_array}

abbrev pub IsWhole : Tree → Type 0
IsWhole (scalar s) = Unit {0}
IsWhole (vector n s) = Unit {0}
IsWhole (matrix columns rows s) = Unit {0}
IsWhole (cooperative_matrix columns rows s role) = Unit {0}
IsWhole (atomic s) = Unit {0}
IsWhole (pointer base space) = Unit {0}
IsWhole (value_pointer n s space) = Unit {0}
IsWhole (array base n stride) = ⊥
IsWhole (struct ms span) = ⊥
IsWhole (image dim arrayed class) = Unit {0}
IsWhole (sampler comparison) = Unit {0}
IsWhole (acceleration_structure vertex_return) = Unit {0}
IsWhole (ray_query vertex_return) = Unit {0}
IsWhole (binding_array base n) = Unit {0}
