use Rattle.std.proofs.Common.{◌≡◌, ◌∷◌, [], sym, ap, subst, ◌∙◌}
use Rattle.std.specs.Prelude.{MatchOption, unwrap_or}
use Rattle.ir_kinds.specs.declared.stages.MeshOutputTopology.{MeshOutputTopology}
use Rattle.spec_interface.specs.found.Members.{member_topologies}
use Rattle.spec_interface.proofs.members.topology_at.Goals as goal

pub returns-in-Some : goal.returns-in-Some
returns-in-Some c =
    subst (λ o. MatchOption c.only_topology.result ((t : MeshOutputTopology) → member_topologies (unwrap_or o []) ≡ t ∷ [] → ⊥) (λ t. member_topologies (unwrap_or o []) ≡ t ∷ [])) (sym c.in-Some.ensures) c.only_topology.ensures

pub returns-in-None : goal.returns-in-None
returns-in-None c = λ t e. let f = sym (ap (λ o. member_topologies (unwrap_or o [])) c.in-None.ensures) ∙ e in cc
