use Rattle.std.proofs.Common.{List, Option, sym, subst}
use Rattle.function_entry_checks.specs.Faults.{IsRefusedFor}
use Rattle.function_entries.proofs.Reported.{given_refused}
use Rattle.function_entries.specs.Contexts.{varying_context}
use Rattle.function_entries.specs.VaryingFaults.{IsGivenFault}
use Rattle.ir_items.specs.declared.functions.FunctionResult.{FunctionResult}
use Rattle.ir_types.specs.judged.Plain.{PlainType}
use Rattle.spec_interface.specs.judged.Varyings.{result_varyings, varyings_of}
use Rattle.spec_interface.specs.declared.varyings.Direction.TheVariants.{Output}
use Rattle.function_varying_checks.specs.View.{context_view}
use Rattle.function_entries.proofs.varyings.answered.Goals as goal

pub returns-in-Err-clause-fine : goal.returns-in-Err-clause-fine
returns-in-Err-clause-fine c =
    let k = varying_context c.args.context.now Output in
    subst (λ (o : Option FunctionResult). IsRefusedFor (IsGivenFault k (result_varyings k.types o)) c.result_refusal.result) (sym c.in-Some.is)
    (given_refused (context_view c.varying_context-varyings.result) k c.varying_context-varyings.ensures.view (λ (types : List PlainType). varyings_of types 0 c.in-Some.answer.ty c.in-Some.answer.binding) c.in-Err.refusal c.result_refusal.result c.in-Err.ensures.fine c.result_refusal.ensures)
