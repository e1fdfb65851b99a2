-- The definitions of bit flag sets and of plain enums, re-exported.
pub use Rattle.ir_flags.specs.Sets.{Has, IsWithin}
pub use Rattle.ir_flags.specs.Words.{Row, storage_access_bits, barrier_bits, memory_decoration_bits, shader_stage_bits, subgroup_operation_bits, validation_flags, capability_bits}
