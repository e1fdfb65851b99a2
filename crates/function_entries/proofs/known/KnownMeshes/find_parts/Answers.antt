use Rattle.std.proofs.Common.{sym, subst}
use Rattle.ir_items.specs.found.View.{module_view}
use Rattle.function_entries.specs.Interfaces.{ArePartsAt}
use Rattle.function_varyings.proofs.MarkLaws.{one_more}
use Rattle.function_entries.proofs.known.KnownMeshes.find_parts.Goals as goal

pub returns-in-Some-clause-found : goal.returns-in-Some-clause-found
returns-in-Some-clause-found c =
    let types = (module_view c.args.«module».now).types in
    let p = c.in-Some.parts.now in
    subst (λ t. ArePartsAt types t p) c.index.ensures.value (c.requires.known.parts c.index.result p (sym c.in-Some.ensures.value))

pub returns-in-Ok-clause-known : goal.returns-in-Ok-clause-known
returns-in-Ok-clause-known c =
    let types = (module_view c.args.«module».now).types in
    let m = c.args.self.now in
    let made = c.in-Some-parts_at.parts in
    record {
      parts = one_more c.index.result made m.parts c.insert.new.self c.in-Ok.ensures.updates.0 (λ t p. ArePartsAt types t p) (subst (λ t. ArePartsAt types t made) (sym c.index.ensures.value) c.in-Some-parts_at.ensures) c.requires.known.parts;
      topologies = c.requires.known.topologies;
    }
