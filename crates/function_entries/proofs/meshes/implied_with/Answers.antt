use Rattle.std.proofs.Common.{◌≡◌, ◌∷◌, [], sym, subst}
use Rattle.spec_interface.specs.judged.Members.{topologies_at}
use Rattle.ir_items.specs.found.View.{module_view}
use Rattle.function_entries.proofs.MeshLaws.{bad_primitives_by}
use Rattle.function_entries.specs.MeshFaults.{IsImpliedFault}
use Rattle.function_entries.proofs.meshes.implied_with.Goals as goal

pub returns-in-Ok-Some-clause-fine : goal.returns-in-Ok-Some-clause-fine
returns-in-Ok-Some-clause-fine c = c.implied_by.ensures (module_view c.args.«module».now) c.in-Ok.ensures.fine
    (subst (λ n. topologies_at (module_view c.args.«module».now).types n ≡ c.in-Ok-Some.topology ∷ []) c.primitive_of.ensures (rw c.in-Ok-Some.field-0-is at c.in-Ok-Some.ensures.found))

pub returns-in-Ok-None-clause-fine : goal.returns-in-Ok-None-clause-fine
returns-in-Ok-None-clause-fine c =
    let m = module_view c.args.«module».now in (
      subst (IsImpliedFault m c.args.variable) (sym c.new.ensures.error) (bad_primitives_by m c.args.variable c.in-Ok.fields c.in-Ok.ensures.fine
          (let none = rw c.in-Ok-None.field-0-is at c.in-Ok-None.ensures.found in λ t e. none t (subst (λ n. topologies_at m.types n ≡ t ∷ []) (sym c.primitive_of.ensures) e))),
      c.new.ensures.spans,
    )
