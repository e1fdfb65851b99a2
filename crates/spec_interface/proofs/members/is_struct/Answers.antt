use Rattle.std.proofs.Common.{refl, sym, true≢false}
use Rattle.spec_interface.proofs.Places.{is_some_by, not_some_by}
use Rattle.spec_interface.proofs.members.is_struct.Goals as goal

pub returns-in-Some : goal.returns-in-Some
returns-in-Some c = (λ h. is_some_by _ _ c.in-Some.ensures, λ h. refl)

pub returns-in-None : goal.returns-in-None
returns-in-None c = (λ h. absurd (true≢false (sym h)), λ h. absurd (not_some_by _ c.in-None.ensures h))
