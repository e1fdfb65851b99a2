-- The rules of barriers.
use Rattle.ir_flags.specs.Sets.{Has}
use Rattle.ir_flags.specs.declared.memory.Barrier.{Barrier}
use Rattle.ir_flags.specs.declared.memory.TheConstants.Barrier.{SUB_GROUP}
use Rattle.ir_flags.specs.declared.settings.TheConstants.Capabilities.{SUBGROUP, SUBGROUP_BARRIER}
use Rattle.ir_flags.specs.declared.stages.TheConstants.SubgroupOperationSet.{BASIC}
use Rattle.spec_statements.specs.judged.BlockContext.{BlockContext}

-- The requirements of a subgroup barrier.
pub record HasSubgroupBarriers (c : BlockContext) : Type 0 where
  pub subgroups : Has c.capabilities.0 SUBGROUP.0
  pub barriers : Has c.capabilities.0 SUBGROUP_BARRIER.0
  pub basic : Has c.operations.0 BASIC.0

abbrev pub BarrierOK : BlockContext → Barrier → Type 0
BarrierOK c barrier = Has barrier.0 SUB_GROUP.0 → HasSubgroupBarriers c
