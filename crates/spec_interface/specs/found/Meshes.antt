-- The parts of a mesh shader's output variable.
use Rattle.std.specs.Prelude.{◌≡◌, ℕ, List, Option, None, option_and_then, slice_get}
use Rattle.ir_items.specs.judged.GlobalPlain.{PlainGlobal}
use Rattle.ir_items.specs.judged.Plain.{PlainModule}
use Rattle.ir_items.specs.declared.entries.MeshStageInfo.{MeshStageInfo}
use Rattle.ir_kinds.specs.declared.scalars.TheConstants.Scalar.{U32}
use Rattle.ir_types.specs.judged.Plain.{PlainMember, PlainType}
use Rattle.spec_interface.specs.judged.Members.{members_at}
use Rattle.spec_interface.specs.judged.Meshes.{override_of}
use Rattle.typing_forms.specs.judged.Forms.{form_of_type}
use Rattle.typing_forms.specs.declared.form.Form.TheVariants as form

-- the members of a variable's struct type
abbrev pub variable_members : PlainModule → (variable : ℕ) → Option (List PlainMember)
variable_members m variable = option_and_then (λ (v : PlainGlobal). members_at m.types v.ty) (slice_get m.globals variable)

-- the type is that of a count: a 32-bit unsigned integer
abbrev pub IsCount : List PlainType → (type : ℕ) → Type 0
IsCount types type = form_of_type types type ≡ form.Scalar U32

-- the mesh info without its overrides
abbrev pub without_overrides : MeshStageInfo → MeshStageInfo
without_overrides i = record i { max_vertices_override = None; max_primitives_override = None }

-- the override that a global expression is, if it is one
abbrev pub override_at : PlainModule → (expression : ℕ) → Option ℕ
override_at m expression = option_and_then override_of (slice_get m.global_expressions expression)
