use Rattle.typing_rules.proofs.MemberBits.{scalars_by_bits, sizes_by_bits}
use Rattle.typing_rules.proofs.set_laws.members_by_bits.Goals as goal

pub returns-clause-scalars : goal.returns-clause-scalars
returns-clause-scalars c = scalars_by_bits

pub returns-clause-sizes : goal.returns-clause-sizes
returns-clause-sizes c = sizes_by_bits
