-- Faults of an entry point refute it.
use Rattle.std.proofs.Common.{◌≡◌, ℕ, List, false, Option, Some, IfSome, sym, ap, subst, ◌∙◌, arith, true≢false}
use Rattle.std.specs.Prelude.{IsSome, IsTrue, is_some}
use Rattle.std.proofs.lemmas.Option.{same_Some}
use Rattle.function_entry_checks.specs.Faults.{IsBindingFault, IsCapabilityFault, IsEarlyFault, IsFaultOfOne, IsImmediateFault, IsMeshInfoFault, IsPayloadUseFault, IsReachFault, IsSizeFault, IsStageFault, of_capability, of_early, of_sizes, of_mesh as of_mesh_info, IsUseFault, IsVariableFault, of_payload, of_stage, of_uses, IsVariablesFault, of_immediates, of_one, of_bindings}
use Rattle.function_entry_checks.specs.declared.error.EntryPointError.{EntryPointError}
use Rattle.function_entry_checks.specs.declared.error.EntryPointError.TheVariants as error
use Rattle.function_entries.proofs.MeshLaws.{said_refuted, same_implied}
use Rattle.spec_interface.proofs.Places.{not_some_by}
use Rattle.function_entries.specs.ConnectionFaults.{IsConnectionFault, of_arguments, of_result, of_answer, of_variables, of_mesh}
use Rattle.function_entries.specs.Laws.{ConnectionFaultRefutes, OneImplied, PayloadFaultRefutes, StageFaultRefutes}
use Rattle.function_entries.specs.OutputFaults.{IsMeshFault, IsOwnMeshFault, IsPointFault, IsPositionFault, IsSpaceFault, IsVertexFault, of_own, of_vertices, of_primitives, of_space, of_said, of_points, of_output, of_position}
use Rattle.function_entries.specs.VaryingFaults.{IsAnswerFault, IsArgumentFault, IsGivenFault, IsOutputFault}
use Rattle.ir_flags.specs.Sets.{Has}
use Rattle.ir_flags.specs.declared.settings.Capabilities.{Capabilities}
use Rattle.ir_flags.specs.declared.settings.ValidationFlags.{ValidationFlags}
use Rattle.ir_flags.specs.declared.settings.TheConstants.ValidationFlags.{BINDINGS}
use Rattle.ir_items.specs.judged.GlobalPlain.{PlainGlobal}
use Rattle.ir_items.specs.judged.Plain.{PlainArgument, PlainEntry, PlainModule}
use Rattle.ir_items.specs.declared.entries.MeshStageInfo.{MeshStageInfo}
use Rattle.ir_items.specs.declared.functions.FunctionResult.{FunctionResult}
use Rattle.ir_kinds.specs.declared.spaces.AddressSpace.{AddressSpace}
use Rattle.ir_kinds.specs.declared.spaces.AddressSpace.TheVariants.{RayPayload, IncomingRayPayload, TaskPayload}
use Rattle.ir_kinds.specs.declared.stages.ShaderStage.{ShaderStage}
use Rattle.ir_types.specs.judged.Plain.{PlainType}
use Rattle.spec_expressions.specs.judged.Summaries.{HasUseBit}
use Rattle.spec_interface.specs.judged.Entries.{ConnectionsOK}
use Rattle.spec_interface.specs.judged.Members.{members_at}
use Rattle.spec_interface.specs.judged.Meshes.{MeshOK}
use Rattle.spec_interface.specs.judged.Payloads.{space_at}
use Rattle.spec_interface.specs.judged.Results.{StageResultOK}
use Rattle.spec_interface.specs.judged.Stages.{StageOK, stage_row}
use Rattle.spec_interface.specs.judged.Uses.{is_reached}
use Rattle.spec_interface.specs.judged.UsedVariables.{UsedVariableOK, VariablesOK}
use Rattle.spec_interface.specs.judged.Contexts.{VaryingContext, context_of}
use Rattle.spec_interface.specs.judged.Varyings.{VaryingsOK, argument_varyings, mesh_varyings, result_varyings}
use Rattle.spec_interface.specs.declared.varyings.Direction.TheVariants.{Input, Output, VertexOutput, PrimitiveOutput}
use Rattle.spec_interface.specs.declared.varyings.Varying.{Varying}
use Rattle.function_varying_checks.specs.declared.error.VaryingError.TheVariants as varying
use Rattle.function_varyings.proofs.Refuted.{fault_refutes}

-- ---- the stage

module _ (capabilities : Capabilities) (e : PlainEntry) (ok : StageOK capabilities e) where
  no_capability : (x : EntryPointError) → IsCapabilityFault capabilities e.stage x → ⊥
  no_capability (error.UnsupportedCapability c) fault = fault.1 (subst (λ o. IfSome o (λ (x : Capabilities). Has capabilities.0 x.0)) fault.0 ok.needed)
  no_capability _ fault = absurd fault

  no_early : (x : EntryPointError) → IsSome e.early → IsEarlyFault capabilities e.stage x → ⊥
  no_early (error.Result (varying.UnsupportedCapability c)) some fault = fault.1 (ok.early some).has
  no_early error.UnexpectedEarlyDepthTest some fault = fault (ok.early some).fragments
  no_early _ some fault = absurd fault

  no_sizes : (x : EntryPointError) → IsSizeFault (stage_row e.stage).workgroups e.sizes x → ⊥
  no_sizes error.UnexpectedWorkgroupSize fault = fault.1 ok.sizes
  no_sizes error.OutOfRangeWorkgroupSize fault = fault.1 ok.sizes
  no_sizes _ fault = absurd fault

  no_mesh : (x : EntryPointError) → IsMeshInfoFault e.stage (is_some e.mesh) x → ⊥
  no_mesh error.ExpectedMeshShaderAttributes fault = true≢false (sym (ok.mesh.1 fault.0) ∙ fault.1)
  no_mesh error.UnexpectedMeshShaderAttributes fault = fault.0 (ok.mesh.0 fault.1)
  no_mesh _ fault = absurd fault

  stage_refuted : (x : EntryPointError) → IsStageFault capabilities e x → ⊥
  stage_refuted x (of_capability fault) = no_capability x fault
  stage_refuted x (of_early some fault) = no_early x some fault
  stage_refuted x (of_sizes fault) = no_sizes x fault
  stage_refuted x (of_mesh_info fault) = no_mesh x fault

pub stage_fault_refutes : StageFaultRefutes
stage_fault_refutes capabilities e x fault ok = stage_refuted capabilities e ok x fault

-- ---- the payload

pub payload_fault_refutes : PayloadFaultRefutes
payload_fault_refutes m e error.ExpectedTaskPayload fault ok = not_some_by e.payload fault.1 (ok.handed fault.0)
payload_fault_refutes m e error.UnexpectedTaskPayload fault ok = true≢false (sym (ok.stages fault.1) ∙ fault.0)
payload_fault_refutes m e error.TaskPayloadWrongAddressSpace fault ok =
    fault.elsewhere (subst (λ o. IfSome o (λ (g : ℕ). space_at m g ≡ Some TaskPayload)) fault.said ok.lies)
payload_fault_refutes m e _ fault ok = absurd fault

-- ---- varyings

no_argument : (c : VaryingContext) (arguments : List PlainArgument) (x : EntryPointError) → VaryingsOK c (argument_varyings c.types arguments) → IsArgumentFault c arguments x → ⊥
no_argument c arguments (error.Argument k e) ok fault = fault_refutes c (argument_varyings c.types arguments) fault.0 e fault.2 ok
no_argument c arguments _ ok fault = absurd fault

no_given : (c : VaryingContext) (vs : List Varying) (x : EntryPointError) → VaryingsOK c vs → IsGivenFault c vs x → ⊥
no_given c vs (error.Result e) ok fault = fault_refutes c vs fault.0 e fault.1 ok
no_given c vs _ ok fault = absurd fault

no_output : (c : VaryingContext) (type : ℕ) (x : EntryPointError) → IsSome (members_at c.types type) → VaryingsOK c (mesh_varyings c.types type) → IsOutputFault c type x → ⊥
no_output c type error.InvalidMeshOutputType struct ok fault = fault struct
no_output c type (error.Result e) struct ok fault = fault_refutes c (mesh_varyings c.types type) fault.0 e fault.1 ok
no_output c type _ struct ok fault = absurd fault

no_answer : (types : List PlainType) (stage : ShaderStage) (r : Option FunctionResult) (x : EntryPointError) → StageResultOK types stage r → IsAnswerFault types stage r x → ⊥
no_answer types stage r error.MissingVertexOutputPosition ok fault = fault.1 (ok.vertex fault.0)
no_answer types stage r error.WrongTaskShaderEntryResult ok fault = fault.1 (ok.task fault.0)
no_answer types stage r error.UnexpectedMeshShaderEntryResult ok fault = not_some_by r (ok.mesh fault.0) fault.1
no_answer types stage r _ ok fault = absurd fault

-- ---- variables

reached_by : (stage : ShaderStage) (s : AddressSpace) (t : AddressSpace) → s ≡ t → IsTrue (is_reached stage s) → is_reached stage t ≡ false → ⊥
reached_by stage s t same is not = true≢false (sym is ∙ (ap (is_reached stage) same ∙ not))

module _ (m : PlainModule) (e : PlainEntry) (g : ℕ) (v : PlainGlobal) (Uses : (k : ℕ) → Type 0) (ok : UsedVariableOK m e g v Uses) where
  no_payload_use : (x : EntryPointError) → IsPayloadUseFault m e g v x → ⊥
  no_payload_use error.WrongTaskPayloadUsed fault = fault.1 (ok.payload fault.0).own
  no_payload_use (error.TaskPayloadTooSmall bytes) fault = (let le = (ok.payload fault.0).bytes in let is = fault.1 in let lt = fault.2 in omega (arith, le, is, lt))
  no_payload_use _ fault = absurd fault

  no_reach : (x : EntryPointError) → IsReachFault e.stage v.space x → ⊥
  no_reach (error.RayPayloadInInvalidStage s) fault = reached_by e.stage v.space RayPayload fault.1 ok.reached fault.2
  no_reach (error.IncomingRayPayloadInInvalidStage s) fault = reached_by e.stage v.space IncomingRayPayload fault.1 ok.reached fault.2
  no_reach _ fault = absurd fault

  no_use : (x : EntryPointError) → IsUseFault m e g v Uses x → ⊥
  no_use (error.InvalidGlobalUsage h kinds) fault = fault.2 ok.allowed
  no_use _ fault = absurd fault

  variable_refuted : (x : EntryPointError) → IsVariableFault m e g v Uses x → ⊥
  variable_refuted x (of_payload fault) = no_payload_use x fault
  variable_refuted x (of_stage fault) = no_reach x fault
  variable_refuted x (of_uses fault) = no_use x fault

module _ (flags : ValidationFlags) (m : PlainModule) (e : PlainEntry) (Uses : ℕ → ℕ → Type 0) (ok : VariablesOK flags m e Uses) where
  no_one : (x : EntryPointError) → IsFaultOfOne m e Uses x → ⊥
  no_one x f = variable_refuted m e f.handle f.variable (Uses f.handle) (ok.each f.handle f.variable f.at f.used) x f.fault

  no_immediates : (x : EntryPointError) → IsImmediateFault m Uses x → ⊥
  no_immediates error.MoreThanOneImmediateUsed f = f.apart (ok.immediate f.first f.second f.first_used f.second_used f.first_lies f.second_lies)
  no_immediates _ f = absurd f

  no_bindings : (x : EntryPointError) → Has flags.0 BINDINGS.0 → IsBindingFault m Uses x → ⊥
  no_bindings (error.BindingCollision h) asked f = f.apart (ok.bound asked f.other h f.binding f.other_used f.used f.other_bound f.bound)
  no_bindings _ asked f = absurd f

  pub variables_refuted : (x : EntryPointError) → IsVariablesFault flags m e Uses x → ⊥
  variables_refuted x (of_immediates fault) = no_immediates x fault
  variables_refuted x (of_one fault) = no_one x fault
  variables_refuted x (of_bindings asked fault) = no_bindings x asked fault

-- ---- mesh shaders

module _ (flags : ValidationFlags) (capabilities : Capabilities) (m : PlainModule) (e : PlainEntry) (i : MeshStageInfo) (ok : MeshOK flags capabilities m e i) where
  no_space : (x : EntryPointError) → IsSpaceFault m i x → ⊥
  no_space error.WrongMeshOutputAddressSpace fault = fault ok.lies
  no_space _ fault = absurd fault

  no_points : (x : EntryPointError) → IsPointFault capabilities i x → ⊥
  no_points (error.UnsupportedCapability c) fault = fault.2 (ok.points fault.1)
  no_points _ fault = absurd fault

  no_own : (x : EntryPointError) → IsOwnMeshFault capabilities m i x → ⊥
  no_own x (of_space fault) = no_space x fault
  no_own x (of_said fault) = said_refuted m i x fault ok.said
  no_own x (of_points fault) = no_points x fault

  no_position : (x : EntryPointError) → IsPositionFault m i.vertex_output_type x → ⊥
  no_position error.MissingVertexOutputPosition fault = fault ok.vertex.position
  no_position _ fault = absurd fault

  no_vertices : (x : EntryPointError) → IsVertexFault flags capabilities m e i.vertex_output_type x → ⊥
  no_vertices x (of_output fault) = no_output (context_of flags capabilities m e VertexOutput) i.vertex_output_type x ok.vertex.struct ok.vertex.given fault
  no_vertices x (of_position fault) = no_position x fault

  mesh_refuted : (x : EntryPointError) → IsMeshFault flags capabilities m e i x → ⊥
  mesh_refuted x (of_own fault) = no_own x fault
  mesh_refuted x (of_vertices fault) = no_vertices x fault
  mesh_refuted x (of_primitives fault) = no_output (context_of flags capabilities m e PrimitiveOutput) i.primitive_output_type x ok.primitive.struct ok.primitive.given fault

-- ---- all connections

pub connection_refuted : (flags : ValidationFlags) (capabilities : Capabilities) (m : PlainModule) (e : PlainEntry) (Uses : ℕ → ℕ → Type 0) (x : EntryPointError)
    → IsConnectionFault flags capabilities m e Uses x → ConnectionsOK flags capabilities m e Uses → ⊥
connection_refuted flags capabilities m e Uses x (of_arguments fault) ok = no_argument (context_of flags capabilities m e Input) e.function.arguments x ok.arguments fault
connection_refuted flags capabilities m e Uses x (of_result fault) ok = no_given (context_of flags capabilities m e Output) (result_varyings m.types e.function.result) x ok.result fault
connection_refuted flags capabilities m e Uses x (of_answer fault) ok = no_answer m.types e.stage e.function.result x ok.answer fault
connection_refuted flags capabilities m e Uses x (of_variables fault) ok = variables_refuted flags m e Uses ok.variables x fault
connection_refuted flags capabilities m e Uses x (of_mesh i said fault) ok = mesh_refuted flags capabilities m e i (subst (λ o. IfSome o (MeshOK flags capabilities m e)) said ok.mesh) x fault

pub connection_fault_refutes : ConnectionFaultRefutes
connection_fault_refutes flags capabilities m e uses x fault ok = connection_refuted flags capabilities m e (HasUseBit uses) x fault ok

pub one_implied : OneImplied
one_implied m variable i j vb pb wb qb a b = let s = same_implied m variable i j vb pb wb qb a b in (s.info, s.vertices_by, s.primitives_by)
