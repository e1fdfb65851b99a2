-- Errors of the arguments and the result of an entry point.
use Rattle.std.specs.Prelude.{◌≡◌, ℕ, List, Option, IsSome, false, min, []}
use Rattle.function_entry_checks.specs.declared.error.EntryPointError.{EntryPointError}
use Rattle.function_entry_checks.specs.declared.error.EntryPointError.TheVariants as error
use Rattle.ir_types.specs.found.Faults.{error_of, spans_of}
use Rattle.ir_types.specs.declared.refusal.Refusal.{Refusal}
use Rattle.ir_types.specs.declared.refusal.Refusal.TheVariants as refusal
use Rattle.ir_items.specs.judged.Plain.{PlainArgument}
use Rattle.ir_items.specs.declared.functions.FunctionResult.{FunctionResult}
use Rattle.ir_kinds.specs.declared.bindings.BuiltIn.TheVariants.{Position}
use Rattle.ir_kinds.specs.declared.stages.ShaderStage.{ShaderStage}
use Rattle.ir_kinds.specs.declared.stages.ShaderStage.TheVariants.{Vertex, Mesh, Task}
use Rattle.ir_types.specs.judged.Plain.{PlainType}
use Rattle.spec_interface.specs.judged.Members.{members_at}
use Rattle.spec_interface.specs.judged.Results.{GivesTaskSize}
use Rattle.spec_interface.specs.judged.Contexts.{VaryingContext}
use Rattle.spec_interface.specs.judged.Varyings.{HasBuiltIn, argument_varyings, mesh_varyings, result_varyings}
use Rattle.spec_interface.specs.declared.varyings.Varying.{Varying}
use Rattle.function_varying_checks.specs.Faults.{IsVaryingFault}
use Rattle.function_varying_checks.specs.declared.error.VaryingRefusal.{VaryingRefusal}
use Rattle.function_varying_checks.specs.declared.error.VaryingRefusal.TheVariants as varying

-- ---- refusals

-- a refusal of varyings, as one of an argument
abbrev pub IsReportedOfArgument : VaryingRefusal → Refusal EntryPointError → Type 0
IsReportedOfArgument (varying.Memory a) (refusal.Memory b) = Unit {0}
IsReportedOfArgument (varying.Memory a) (refusal.Fault f) = ⊥
IsReportedOfArgument (varying.Fault index e) (refusal.Memory b) = ⊥
IsReportedOfArgument (varying.Fault index e) (refusal.Fault f) = (error_of f ≡ error.Argument (min index 4294967295) e) × (spans_of f ≡ [])

-- and as one of a result
abbrev pub IsReportedOfResult : VaryingRefusal → Refusal EntryPointError → Type 0
IsReportedOfResult (varying.Memory a) (refusal.Memory b) = Unit {0}
IsReportedOfResult (varying.Memory a) (refusal.Fault f) = ⊥
IsReportedOfResult (varying.Fault index e) (refusal.Memory b) = ⊥
IsReportedOfResult (varying.Fault index e) (refusal.Fault f) = (error_of f ≡ error.Result e) × (spans_of f ≡ [])

-- ---- varyings

-- an argument is invalid, which the number names as far as it goes
abbrev pub IsArgumentFault : VaryingContext → List PlainArgument → EntryPointError → Type 0
IsArgumentFault c arguments (error.Argument k e) = (index : ℕ) × (k ≡ min index 4294967295) × IsVaryingFault c (argument_varyings c.types arguments) index e
IsArgumentFault c arguments _ = ⊥

-- one of these result varyings is invalid
abbrev pub IsGivenFault : VaryingContext → List Varying → EntryPointError → Type 0
IsGivenFault c vs (error.Result e) = (index : ℕ) × IsVaryingFault c vs index e
IsGivenFault c vs _ = ⊥

-- the output of this type of a mesh shader's vertices or primitives
abbrev pub IsOutputFault : VaryingContext → (type : ℕ) → EntryPointError → Type 0
IsOutputFault c type error.InvalidMeshOutputType = ¬ IsSome (members_at c.types type)
IsOutputFault c type e = IsGivenFault c (mesh_varyings c.types type) e

-- ---- the required result

abbrev pub IsAnswerFault : List PlainType → ShaderStage → Option FunctionResult → EntryPointError → Type 0
IsAnswerFault types stage r error.MissingVertexOutputPosition = (stage ≡ Vertex) × ¬ HasBuiltIn (result_varyings types r) (Position false)
IsAnswerFault types stage r error.WrongTaskShaderEntryResult = (stage ≡ Task) × ¬ GivesTaskSize types r
IsAnswerFault types stage r error.UnexpectedMeshShaderEntryResult = (stage ≡ Mesh) × IsSome r
IsAnswerFault types stage r _ = ⊥
