use Rattle.ir_flags.proofs.SetLaws.{all_storage_access, all_barrier, all_memory_decorations, all_shader_stages, all_subgroup_operations, all_validation_flags, all_capabilities}
use Rattle.ir_flags.proofs.laws.all_words.Goals as goal

pub returns-clause-storage_access : goal.returns-clause-storage_access
returns-clause-storage_access c = all_storage_access

pub returns-clause-barrier : goal.returns-clause-barrier
returns-clause-barrier c = all_barrier

pub returns-clause-memory_decorations : goal.returns-clause-memory_decorations
returns-clause-memory_decorations c = all_memory_decorations

pub returns-clause-shader_stages : goal.returns-clause-shader_stages
returns-clause-shader_stages c = all_shader_stages

pub returns-clause-subgroup_operations : goal.returns-clause-subgroup_operations
returns-clause-subgroup_operations c = all_subgroup_operations

pub returns-clause-validation_flags : goal.returns-clause-validation_flags
returns-clause-validation_flags c = all_validation_flags

pub returns-clause-capabilities : goal.returns-clause-capabilities
returns-clause-capabilities c = all_capabilities
