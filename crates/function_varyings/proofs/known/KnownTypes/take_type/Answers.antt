use Rattle.std.proofs.Common.{subst}
use Rattle.function_varyings.proofs.known.KnownTypes.take_type.Goals as goal
use Rattle.function_varyings.specs.Marks.{KeepsNumbers}
use Rattle.function_varyings.specs.declared.marks.Marks.{Marks}

pub returns-clause-kept : goal.returns-clause-kept
returns-clause-kept c = subst (λ (m : Marks). KeepsNumbers m.numbers c.take_members.new.self.numbers) c.in-Ok.ensures.marks c.in_ok-free.ensures.kept

pub returns-clause-free : goal.returns-clause-free
returns-clause-free c = λ free. record { fine = c.in-Ok.ensures.fine.0; taken = c.in_ok-free.ensures.free free }
