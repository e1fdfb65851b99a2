-- Errors of barriers.
use Rattle.std.specs.Prelude.{◌≡◌, bit_or}
use Rattle.typing_errors.specs.declared.error.FunctionError.{FunctionError}
use Rattle.typing_errors.specs.declared.error.FunctionError.TheVariants as error
use Rattle.typing_errors.specs.declared.subgroups.SubgroupError.{SubgroupError}
use Rattle.typing_errors.specs.declared.subgroups.SubgroupError.TheVariants.{UnsupportedOperation}
use Rattle.ir_flags.specs.Sets.{Has}
use Rattle.ir_flags.specs.declared.memory.Barrier.{Barrier}
use Rattle.ir_flags.specs.declared.memory.TheConstants.Barrier.{SUB_GROUP}
use Rattle.ir_flags.specs.declared.settings.TheConstants.Capabilities.{SUBGROUP, SUBGROUP_BARRIER}
use Rattle.ir_flags.specs.declared.stages.TheConstants.SubgroupOperationSet.{BASIC}
use Rattle.spec_statements.specs.judged.BlockContext.{BlockContext}

-- subgroup barriers are not supported
abbrev pub IsUnsupported : BlockContext → SubgroupError → Type 0
IsUnsupported c (UnsupportedOperation set) = (set ≡ BASIC) × ¬ Has c.operations.0 BASIC.0
IsUnsupported c _ = ⊥

abbrev pub IsBarrierFault : BlockContext → Barrier → FunctionError → Type 0
IsBarrierFault c barrier (error.MissingCapability missing) =
    Has barrier.0 SUB_GROUP.0 × (missing.0 ≡ bit_or SUBGROUP.0 SUBGROUP_BARRIER.0) × ¬ (Has c.capabilities.0 SUBGROUP.0 × Has c.capabilities.0 SUBGROUP_BARRIER.0)
IsBarrierFault c barrier (error.InvalidSubgroup e) = Has barrier.0 SUB_GROUP.0 × IsUnsupported c e
IsBarrierFault c barrier _ = ⊥
