-- The results of entry point functions, by stage.
use Rattle.std.specs.Prelude.{◌≡◌, false, List, Option, Some, None}
use Rattle.ir_items.specs.declared.functions.FunctionResult.{FunctionResult}
use Rattle.ir_kinds.specs.declared.bindings.BuiltIn.TheVariants.{Position}
use Rattle.ir_kinds.specs.declared.scalars.TheConstants.Scalar.{U32}
use Rattle.ir_kinds.specs.declared.scalars.VectorSize.TheVariants.{Tri}
use Rattle.ir_kinds.specs.declared.stages.ShaderStage.{ShaderStage}
use Rattle.ir_kinds.specs.declared.stages.ShaderStage.TheVariants.{Vertex, Mesh, Task}
use Rattle.ir_types.specs.judged.Plain.{PlainType}
use Rattle.spec_interface.specs.judged.Varyings.{HasBuiltIn, result_varyings}
use Rattle.typing_forms.specs.judged.Forms.{form_of_type}
use Rattle.typing_forms.specs.declared.form.Form.TheVariants.{Vector}

-- the result is the mesh task size: three 32-bit unsigned integers
pub record GivesTaskSize (types : List PlainType) (r : Option FunctionResult) : Type 0 where
  pub result : FunctionResult
  pub answered : r ≡ Some result
  pub size : form_of_type types result.ty ≡ Vector Tri U32

-- A vertex shader returns a `Position`, a task shader a `MeshTaskSize`, and a mesh shader nothing. Bindings of results are
-- checked elsewhere.
pub record StageResultOK (types : List PlainType) (stage : ShaderStage) (r : Option FunctionResult) : Type 0 where
  pub vertex : stage ≡ Vertex → HasBuiltIn (result_varyings types r) (Position false)
  pub task : stage ≡ Task → GivesTaskSize types r
  pub mesh : stage ≡ Mesh → r ≡ None
