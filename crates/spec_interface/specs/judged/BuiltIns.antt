-- The rules of one built-in value.
use Rattle.std.specs.Prelude.{◌≡◌, ◌⊎◌, ◌≤◌, ◌<◌, ℕ, List, Option, Some, None, IfSome, IsSomeAnd, IsTrue, slice_get}
use Rattle.ir_flags.specs.Sets.{Has}
use Rattle.ir_kinds.specs.judged.Scalars.{floating}
use Rattle.ir_kinds.specs.declared.stages.ShaderStage.{ShaderStage}
use Rattle.ir_kinds.specs.declared.stages.ShaderStage.TheVariants.{Mesh}
use Rattle.ir_types.specs.judged.Plain.{PlainType}
use Rattle.ir_types.specs.declared.types.ArraySize.{ArraySize}
use Rattle.ir_types.specs.declared.types.ArraySize.TheVariants as size
use Rattle.spec_interface.specs.judged.Contexts.{VaryingContext, stage_set}
use Rattle.spec_interface.specs.declared.rows.BuiltInRow.{BuiltInRow}
use Rattle.spec_interface.specs.declared.rows.BuiltInType.{BuiltInType}
use Rattle.spec_interface.specs.declared.rows.BuiltInType.TheVariants.{Value, Distances}
use Rattle.spec_interface.specs.declared.rows.Exception.{Exception}
use Rattle.spec_interface.specs.declared.rows.Exception.TheVariants as exception
use Rattle.spec_interface.specs.declared.rows.TheConstants.BuiltInRow.{HITS}
use Rattle.spec_interface.specs.declared.varyings.Direction.{Direction}
use Rattle.spec_interface.specs.declared.varyings.Direction.TheVariants.{Input, Output, VertexOutput, PrimitiveOutput}
use Rattle.typing_forms.specs.judged.Forms.{form_of_type}
use Rattle.typing_forms.specs.declared.form.Form.{Form}
use Rattle.typing_forms.specs.declared.form.Form.TheVariants as form

-- ---- stages

-- a row has this direction at a stage
abbrev pub RowOccursAt : Direction → ShaderStage → BuiltInRow → Type 0
RowOccursAt Input stage r = Has r.inputs.0 (stage_set stage).0
RowOccursAt Output stage r = Has r.outputs.0 (stage_set stage).0
RowOccursAt VertexOutput stage r = Has r.outputs.0 (stage_set stage).0
RowOccursAt PrimitiveOutput stage r = Has r.outputs.0 (stage_set stage).0 ⊎ IsTrue r.primitive

-- cases that need no capability at a stage, though the row names one: shaders of hits have a primitive's index in any case
abbrev pub IsFree : ShaderStage → Exception → Type 0
IsFree stage e = elim e [ exception.FreeAtHits ↦ Has HITS.0 (stage_set stage).0 | _ ↦ ⊥ ]

-- The exceptions of a row: not an input of a mesh shader with a task payload; or the workgroup must be one-dimensional,
-- with size 1 in the second and third dimension.
abbrev pub ExceptionOK : VaryingContext → Exception → Type 0
ExceptionOK c exception.None = Unit {0}
ExceptionOK c exception.FreeAtHits = Unit {0}
ExceptionOK c exception.NotAfterTasks = c.stage ≡ Mesh → c.payload ≡ None
ExceptionOK c exception.RowsOnly = (way many : ℕ) → 0 < way → slice_get c.sizes way ≡ Some many → many ≤ 1

-- ---- types

-- the elements of an array of this length
abbrev pub array_of_form : Form → Option (ℕ × ArraySize)
array_of_form t = elim t [ form.Array base size stride ↦ Some (base, size) | _ ↦ None ]

-- the length of the array, which is no override
abbrev pub IsCounted : ArraySize → (ℕ → Type 0) → Type 0
IsCounted n P = elim n [ size.Constant count ↦ P count | _ ↦ ⊥ ]

-- an array of at most eight 32-bit floats
abbrev pub AreDistances : List PlainType → Form → Type 0
AreDistances types t = IsSomeAnd (array_of_form t) (λ a. (form_of_type types a.0 ≡ form.Scalar (floating 4)) × IsCounted a.1 (λ count. count ≤ 8))

abbrev pub IsOfType : List PlainType → BuiltInType → (type : ℕ) → Type 0
IsOfType types b type = elim b [ Value t ↦ form_of_type types type ≡ t | Distances ↦ AreDistances types (form_of_type types type) ]

-- ---- the whole rule

-- A value of the type may be the built-in value of the row.
pub record RowOK (c : VaryingContext) (type : ℕ) (r : BuiltInRow) : Type 0 where
  pub capable : IsFree c.stage r.exception ⊎ IfSome r.capability (λ x. Has c.capabilities.0 x.0)
  pub stands : RowOccursAt c.direction c.stage r
  pub besides : ExceptionOK c r.exception
  pub typed : IsOfType c.types r.ty type
