-- The access that each address space allows.
use Rattle.ir_flags.specs.declared.memory.StorageAccess.{StorageAccess}
use Rattle.ir_kinds.specs.declared.spaces.AddressSpace.{AddressSpace}
use Rattle.ir_kinds.specs.declared.spaces.AddressSpace.TheVariants.{Function, Private, WorkGroup, Uniform, Storage, Handle, Immediate, TaskPayload, RayPayload, IncomingRayPayload}

-- LOAD
abbrev pub read_only : StorageAccess
read_only = record { 0 = 1 }

-- LOAD and STORE
abbrev pub reads_and_writes : StorageAccess
reads_and_writes = record { 0 = 3 }

-- the access that an address space allows
abbrev pub access_of : AddressSpace → StorageAccess
access_of Function = reads_and_writes
access_of Private = reads_and_writes
access_of WorkGroup = reads_and_writes
access_of Uniform = read_only
access_of (Storage access) = access
access_of Handle = read_only
access_of Immediate = read_only
access_of TaskPayload = reads_and_writes
access_of RayPayload = reads_and_writes
access_of IncomingRayPayload = reads_and_writes
