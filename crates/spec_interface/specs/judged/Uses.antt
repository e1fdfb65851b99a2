-- Allowed uses of global variables, by address space.
use Rattle.std.specs.Prelude.{◌≡◌, ◌==◌, ◌⊎◌, ℕ, Bool, Option, Some, if◌then◌else◌, bit_and, bit_or, option_map}
use Rattle.std.specs.Int.{bit_at}
use Rattle.spec_statements.specs.SpecExpressions.{GlobalUse}
use Rattle.spec_statements.specs.SpecExpressions.use_ as use_
use Rattle.ir_flags.specs.declared.memory.StorageAccess.{StorageAccess}
use Rattle.ir_flags.specs.declared.memory.TheConstants.StorageAccess as access
use Rattle.ir_items.specs.judged.Plain.{PlainEntry}
use Rattle.ir_items.specs.declared.entries.MeshStageInfo.{MeshStageInfo}
use Rattle.ir_kinds.specs.declared.images.ImageClass.{ImageClass}
use Rattle.ir_kinds.specs.declared.images.ImageClass.TheVariants as class
use Rattle.ir_kinds.specs.declared.spaces.AddressSpace.{AddressSpace}
use Rattle.ir_kinds.specs.declared.spaces.AddressSpace.TheVariants as space
use Rattle.ir_kinds.specs.declared.stages.ShaderStage.{ShaderStage}
use Rattle.ir_kinds.specs.declared.stages.ShaderStage.TheVariants.{Mesh, Task}
use Rattle.ir_types.specs.judged.Plain.{PlainInner, plain}
use Rattle.ir_types.specs.declared.types.TypeInner.TheVariants.{Image}
use Rattle.spec_interface.specs.judged.Spaces.{space_row}
use Rattle.spec_interface.specs.judged.Stages.{stage_row}

-- ---- kinds of use

abbrev pub no_uses : GlobalUse
no_uses = record { 0 = 0 }

-- reading and querying
abbrev pub read_uses : GlobalUse
read_uses = record { 0 = bit_or use_.READ.0 use_.QUERY.0 }

-- and writing
abbrev pub all_but_atomic : GlobalUse
all_but_atomic = record { 0 = bit_or read_uses.0 use_.WRITE.0 }

-- a use that requires one of these accesses
abbrev pub use_if : StorageAccess → (needed : StorageAccess) → GlobalUse → ℕ
use_if access needed kind = if bit_and access.0 needed.0 == needed.0 then kind.0 else 0

-- the allowed uses of storage with some access
abbrev pub access_uses : StorageAccess → GlobalUse
access_uses a = record { 0 = bit_or (bit_or (bit_or use_.QUERY.0 (use_if a access.LOAD use_.READ)) (use_if a access.STORE use_.WRITE)) (use_if a access.ATOMIC use_.ATOMIC) }

-- ---- images and samplers

abbrev pub class_uses : ImageClass → GlobalUse
class_uses (class.Sampled kind multi) = read_uses
class_uses (class.Depth multi) = read_uses
class_uses class.External = read_uses
class_uses (class.Storage format access) = access_uses access

-- the allowed uses of this inner type
abbrev pub handle_uses : Option PlainInner → GlobalUse
handle_uses o = elim o [ Some (plain (Image dim arrayed class)) ↦ class_uses class | _ ↦ read_uses ]

-- ---- spaces

-- a task payload, if the stage may have one: a task shader writes it, and others read it
abbrev pub payload_uses : ShaderStage → GlobalUse
payload_uses stage = elim stage [ Task ↦ all_but_atomic | _ ↦ read_uses ]

-- the allowed uses of a variable in a space, by its inner type, in a stage; for a binding array, its elements' inner type
abbrev pub allowed_uses : ShaderStage → AddressSpace → Option PlainInner → GlobalUse
allowed_uses stage space.Function i = no_uses
allowed_uses stage space.Private i = all_but_atomic
allowed_uses stage space.WorkGroup i = all_but_atomic
allowed_uses stage space.Uniform i = read_uses
allowed_uses stage (space.Storage access) i = access_uses access
allowed_uses stage space.Handle i = handle_uses i
allowed_uses stage space.Immediate i = read_uses
allowed_uses stage space.TaskPayload i = payload_uses stage
allowed_uses stage space.RayPayload i = all_but_atomic
allowed_uses stage space.IncomingRayPayload i = all_but_atomic

-- a stage may use variables in a space at all
abbrev pub is_reached : ShaderStage → AddressSpace → Bool
is_reached stage s = (space_row s).reach (stage_row stage)

-- ---- uses of the variables that an entry point names besides its function

-- its task payload, if its stage may have one
abbrev pub own_payload_use : ShaderStage → GlobalUse
own_payload_use stage = elim stage [ Task ↦ record { 0 = bit_or use_.READ.0 use_.WRITE.0 } | Mesh ↦ use_.READ | _ ↦ no_uses ]

-- the mesh output variable, which is read
abbrev pub mesh_output : PlainEntry → Option ℕ
mesh_output e = option_map (λ (mesh : MeshStageInfo). mesh.output_variable) e.mesh

abbrev pub OwnUse : PlainEntry → (g k : ℕ) → Type 0
OwnUse e g k = ((e.payload ≡ Some g) × (bit_at (own_payload_use e.stage).0 k ≡ 1)) ⊎ ((mesh_output e ≡ Some g) × (bit_at use_.READ.0 k ≡ 1))

-- the uses of an entry point whose function has these uses of global variables
abbrev pub EntryUses : PlainEntry → (ℕ → ℕ → Type 0) → (g k : ℕ) → Type 0
EntryUses e Uses g k = Uses g k ⊎ OwnUse e g k
