-- Unions of bit flag sets.
use Rattle.std.specs.Int.RustNames.{bit_or}
use Rattle.ir_flags.specs.declared.memory.StorageAccess.{StorageAccess}
use Rattle.ir_flags.specs.declared.memory.Barrier.{Barrier}
use Rattle.ir_flags.specs.declared.memory.MemoryDecorations.{MemoryDecorations}
use Rattle.ir_flags.specs.declared.settings.ValidationFlags.{ValidationFlags}
use Rattle.ir_flags.specs.declared.settings.Capabilities.{Capabilities}
use Rattle.ir_flags.specs.declared.stages.ShaderStages.{ShaderStages}
use Rattle.ir_flags.specs.declared.stages.SubgroupOperationSet.{SubgroupOperationSet}

abbrev pub access_union : StorageAccess → StorageAccess → StorageAccess
access_union a b = record { 0 = bit_or a.0 b.0 }

abbrev pub barrier_union : Barrier → Barrier → Barrier
barrier_union a b = record { 0 = bit_or a.0 b.0 }

abbrev pub decoration_union : MemoryDecorations → MemoryDecorations → MemoryDecorations
decoration_union a b = record { 0 = bit_or a.0 b.0 }

abbrev pub flag_union : ValidationFlags → ValidationFlags → ValidationFlags
flag_union a b = record { 0 = bit_or a.0 b.0 }

abbrev pub capability_union : Capabilities → Capabilities → Capabilities
capability_union a b = record { 0 = bit_or a.0 b.0 }

abbrev pub stage_union : ShaderStages → ShaderStages → ShaderStages
stage_union a b = record { 0 = bit_or a.0 b.0 }

abbrev pub operation_union : SubgroupOperationSet → SubgroupOperationSet → SubgroupOperationSet
operation_union a b = record { 0 = bit_or a.0 b.0 }
