-- The flags of each set, and their bits.
use Prim.Native.String.{String}
use Rattle.std.specs.Prelude.{ℕ, ◌*◌, List, [], ◌∷◌, codes}

-- a flag and its bit as a number
abbrev pub Row : Type 0
Row = List ℕ × ℕ

-- the flags with ascending bits, the first of them this one
abbrev pub numbered_from : ℕ → List String → List Row
numbered_from bit [] = []
numbered_from bit (word ∷ words) = (codes word, bit) ∷ numbered_from (2 * bit) words

-- the bit of a flag is its index, from 0
abbrev pub numbered : List String → List Row
numbered words = numbered_from 1 words

abbrev pub storage_access_bits : List Row
storage_access_bits = numbered ("LOAD" ∷ "STORE" ∷ "ATOMIC" ∷ [])

abbrev pub barrier_bits : List Row
barrier_bits = numbered ("STORAGE" ∷ "WORK_GROUP" ∷ "SUB_GROUP" ∷ "TEXTURE" ∷ [])

abbrev pub memory_decoration_bits : List Row
memory_decoration_bits = numbered ("COHERENT" ∷ "VOLATILE" ∷ [])

abbrev pub shader_stage_bits : List Row
shader_stage_bits = numbered ("VERTEX" ∷ "FRAGMENT" ∷ "COMPUTE" ∷ "MESH" ∷ "TASK" ∷ "RAY_GENERATION" ∷ "ANY_HIT" ∷ "CLOSEST_HIT" ∷ "MISS" ∷ [])

abbrev pub subgroup_operation_bits : List Row
subgroup_operation_bits = numbered ("BASIC" ∷ "VOTE" ∷ "ARITHMETIC" ∷ "BALLOT" ∷ "SHUFFLE" ∷ "SHUFFLE_RELATIVE" ∷ "QUAD" ∷ [])

abbrev pub validation_flags : List Row
validation_flags = numbered ("EXPRESSIONS" ∷ "BLOCKS" ∷ "CONTROL_FLOW_UNIFORMITY" ∷ "STRUCT_LAYOUTS" ∷ "CONSTANTS" ∷ "BINDINGS" ∷ "STRICT_SCOPE" ∷ [])

abbrev pub capability_bits : List Row
capability_bits = numbered ("IMMEDIATES" ∷ "FLOAT64" ∷ "SHADER_FLOAT16" ∷ "SHADER_INT16" ∷ "SHADER_INT64" ∷ "PRIMITIVE_INDEX" ∷ "BUFFER_BINDING_ARRAY" ∷
    "STORAGE_BUFFER_BINDING_ARRAY" ∷ "TEXTURE_AND_SAMPLER_BINDING_ARRAY" ∷ "STORAGE_TEXTURE_BINDING_ARRAY" ∷ "ACCELERATION_STRUCTURE_BINDING_ARRAY" ∷
    "STORAGE_TEXTURE_16BIT_NORM_FORMATS" ∷ "CUBE_ARRAY_TEXTURES" ∷ "CLIP_DISTANCES" ∷ "CULL_DISTANCE" ∷ "MULTIVIEW" ∷ "EARLY_DEPTH_TEST" ∷
    "MULTISAMPLED_SHADING" ∷ "DUAL_SOURCE_BLENDING" ∷ "SUBGROUP" ∷ "SUBGROUP_BARRIER" ∷ "SHADER_INT64_ATOMIC_MIN_MAX" ∷ "SHADER_INT64_ATOMIC_ALL_OPS" ∷
    "SHADER_FLOAT32_ATOMIC" ∷ "TEXTURE_ATOMIC" ∷ "TEXTURE_INT64_ATOMIC" ∷ "TEXTURE_EXTERNAL" ∷ "RAY_QUERY" ∷ "RAY_HIT_VERTEX_POSITION" ∷
    "RAY_TRACING_PIPELINE" ∷ "SHADER_BARYCENTRICS" ∷ "MESH_SHADER" ∷ "MESH_SHADER_POINT_TOPOLOGY" ∷ "PER_VERTEX" ∷ "DRAW_INDEX" ∷ "COOPERATIVE_MATRIX" ∷
    "MEMORY_DECORATION_COHERENT" ∷ "MEMORY_DECORATION_VOLATILE" ∷ [])
