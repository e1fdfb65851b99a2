use Rattle.std.proofs.Common.{◌≡◌, Some, None, map, sym, ap, subst}
use Rattle.std.specs.Prelude.{MatchOption}
use Rattle.ir_types.specs.judged.Plain.{member_view}
use Rattle.spec_interface.specs.judged.Members.{members_in}
use Rattle.spec_interface.proofs.lookups.members_at.Goals as goal

pub returns-in-Some : goal.returns-in-Some
returns-in-Some c =
    subst (λ o. MatchOption c.members_in.result (members_in o ≡ None) (λ members. members_in o ≡ Some (map member_view members.now))) (sym c.in-Some.ensures) c.members_in.ensures

pub returns-in-None : goal.returns-in-None
returns-in-None c = ap members_in c.in-None.ensures
