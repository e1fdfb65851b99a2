use Rattle.std.proofs.Common.{◌≡◌, ◌∷◌, [], sym, subst}
use Rattle.ir_items.specs.found.View.{module_view}
use Rattle.spec_interface.specs.judged.Members.{topologies_at}
use Rattle.function_varyings.proofs.MarkLaws.{one_more}
use Rattle.function_entries.proofs.known.KnownMeshes.find_topology.Goals as goal

pub returns-in-Some-clause-found : goal.returns-in-Some-clause-found
returns-in-Some-clause-found c =
    let types = (module_view c.args.«module».now).types in
    let p = c.in-Some.topology.now in
    subst (λ t. topologies_at types t ≡ p ∷ []) c.index.ensures.value (c.requires.known.topologies c.index.result p (sym c.in-Some.ensures.value))

pub returns-in-Ok-clause-known : goal.returns-in-Ok-clause-known
returns-in-Ok-clause-known c =
    let types = (module_view c.args.«module».now).types in
    let m = c.args.self.now in
    let made = c.in-Some-topology_at.topology in
    record {
      topologies = one_more c.index.result made m.topologies c.insert.new.self c.in-Ok.ensures.updates.0 (λ t p. topologies_at types t ≡ p ∷ []) (subst (λ t. topologies_at types t ≡ made ∷ []) (sym c.index.ensures.value) c.in-Some-topology_at.ensures) c.requires.known.topologies;
      parts = c.requires.known.parts;
    }
