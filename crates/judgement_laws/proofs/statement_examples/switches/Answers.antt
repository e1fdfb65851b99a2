use Rattle.std.proofs.Common.{refl, arith}
use Rattle.ir_kinds.specs.declared.values.SwitchValue.TheVariants.{U32}
use Rattle.judgement_laws.proofs.statement_examples.switches.Goals as goal

pub returns-clause-another_kind : goal.returns-clause-another_kind
returns-clause-another_kind c ok = let same = ok.1.fit (U32 1) (0, omega arith, refl) in cc
