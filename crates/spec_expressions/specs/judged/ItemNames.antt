-- What the items of a module refer to, besides expressions and the parts of functions, one row for each kind.
use Rattle.std.specs.Prelude.{ℕ, List, [], ◌∷◌, ◌++◌, map, Option, Some, None, option_and_then}
use Rattle.std.specs.Option.{option_to_list}
use Rattle.ir_items.specs.judged.GlobalPlain.{PlainSpecialTypes}
use Rattle.ir_items.specs.judged.Plain.{PlainEntry}
use Rattle.ir_items.specs.declared.entries.MeshStageInfo.{MeshStageInfo}
use Rattle.ir_kinds.specs.declared.predeclared.PredeclaredType.{PredeclaredType}
use Rattle.typing_layout.specs.IrTypes.{PlainInner, ArraySize, Constant, Pending, Dynamic}
use Rattle.spec_expressions.specs.judged.Operands.{given}
use Rattle.typing_layout.specs.TypingForms.{declared_size}

-- the override that is the array size
abbrev pub pending_in : ArraySize → Option ℕ
pending_in n = elim n [ Constant count ↦ None | Pending handle ↦ Some handle | Dynamic ↦ None ]

-- the override that is a type's array size
abbrev pub pending_of : PlainInner → Option ℕ
pending_of i = option_and_then pending_in (declared_size i)

-- the special types
abbrev pub special_types : PlainSpecialTypes → List ℕ
special_types s = given (s.ray_desc ∷ s.ray_intersection ∷ s.ray_vertex_return ∷ []) ++ map (λ (p : PredeclaredType × ℕ). p.1) s.predeclared

-- what a mesh stage refers to: its output types, the global expressions of its overridden counts, and its output
-- variable
abbrev pub mesh_types : Option MeshStageInfo → List ℕ
mesh_types o = elim o [ None ↦ [] | Some mesh ↦ mesh.vertex_output_type ∷ mesh.primitive_output_type ∷ [] ]

abbrev pub mesh_expressions : Option MeshStageInfo → List ℕ
mesh_expressions o = elim o [ None ↦ [] | Some mesh ↦ given (mesh.max_vertices_override ∷ mesh.max_primitives_override ∷ []) ]

-- the global variables that an entry point refers to besides its function: its task payload, and its mesh output
abbrev pub entry_variables : PlainEntry → List ℕ
entry_variables x = option_to_list x.payload ++ elim x.mesh [ None ↦ [] | Some mesh ↦ mesh.output_variable ∷ [] ]
