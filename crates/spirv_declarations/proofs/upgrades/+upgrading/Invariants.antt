use Rattle.std.proofs.Common.{◌+◌, ◌*◌}
use Rattle.spirv_declarations.proofs.upgrades.+upgrading.Given as goal

abbrev pub decreases-upgraded : goal.decreases-upgraded
decreases-upgraded g l = 3 * l.depth

abbrev pub decreases-upgrade : goal.decreases-upgrade
decreases-upgrade g l = 3 * l.depth + 2

abbrev pub decreases-upgrade_members : goal.decreases-upgrade_members
decreases-upgrade_members g l = 3 * l.depth + 1

abbrev pub invariant-upgrade_members-loop : goal.invariant-upgrade_members-loop
invariant-upgrade_members-loop g l = Unit {0}
