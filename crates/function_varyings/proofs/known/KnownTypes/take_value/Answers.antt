use Rattle.std.proofs.Common.{◌∙◌, subst}
use Rattle.spec_interface.specs.judged.Varyings.{VaryingsOK}
use Rattle.function_varying_checks.specs.View.{context_view}
use Rattle.function_varyings.specs.Marks.{AreNewlyTaken}
use Rattle.function_varyings.proofs.known.KnownTypes.take_value.Goals as goal

pub returns-clause-known : goal.returns-clause-known
returns-clause-known c = record { noted = c.requires.known.noted; marked = c.in_ok-free.ensures.known (context_view c.args.context.now).types c.requires.known.marked }

pub returns-clause-free : goal.returns-clause-free
returns-clause-free c = λ free.
    let v = context_view c.args.context.now in
    let same = c.in-Ok.ensures.0 in
    record {
      fine = subst (VaryingsOK v) same c.in-Ok.ensures.1;
      taken = subst (AreNewlyTaken v.flags c.take_each.new.self.numbers c.args.taken.now.items c.take_each.new.taken.items) (c.deref.ensures.value ∙ same) (c.in_ok-free.ensures.free free);
    }
