use Rattle.std.proofs.Common.{IsTrue, Option, sym, subst}
use Rattle.std.specs.Prelude.{IfOk}
use Rattle.ir_kinds.specs.declared.bindings.Binding.{Binding}
use Rattle.function_varying_checks.specs.View.{context_view}
use Rattle.function_varyings.specs.Known.{IsNewlyGiven}
use Rattle.function_varyings.proofs.known.KnownTypes.take_argument.Goals as goal

pub returns-in-None-clause-free : goal.returns-in-None-clause-free
returns-in-None-clause-free c =
    subst (λ (b : Option Binding). IfOk c.take_type.result (λ free. IsTrue free → IsNewlyGiven (context_view c.args.context.now) c.take_type.new.self.marks.numbers c.args.taken.now.items c.take_type.new.taken.items c.args.argument.now.ty b)) (sym c.in-None.is)
    c.take_type.ensures.free

pub returns-in-Some-clause-free : goal.returns-in-Some-clause-free
returns-in-Some-clause-free c =
    subst (λ (b : Option Binding). IfOk c.take_value.result (λ free. IsTrue free → IsNewlyGiven (context_view c.args.context.now) c.take_value.new.self.marks.numbers c.args.taken.now.items c.take_value.new.taken.items c.args.argument.now.ty b)) (sym c.in-Some.is)
    c.take_value.ensures.free
