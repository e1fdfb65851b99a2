use Rattle.typing_rules.proofs.Ones.{sum_of_ones, rising_ones, powers_of_ones}
use Rattle.typing_rules.proofs.set_laws.ones_of_a_number.Goals as goal

pub returns-clause-sum : goal.returns-clause-sum
returns-clause-sum c = sum_of_ones c.args.bits c.ranges.bits.fits

pub returns-clause-rising : goal.returns-clause-rising
returns-clause-rising c = rising_ones c.args.bits

pub returns-clause-powers : goal.returns-clause-powers
returns-clause-powers c = powers_of_ones c.args.bits
