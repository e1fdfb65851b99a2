use Rattle.std.proofs.Common.{true≢false, sym, ap, ◌∙◌}
use Rattle.std.specs.Prelude.{option_and_then}
use Rattle.spec_interface.proofs.Places.{found, missing}
use Rattle.ir_types.specs.judged.ExpressionPlain.{expression_view}
use Rattle.spec_interface.specs.judged.Meshes.{override_of}
use Rattle.function_entries.proofs.meshes.override_at.Goals as goal

pub returns-in-Ok : goal.returns-in-Ok
returns-in-Ok c = c.override_of.ensures
    ∙ sym (ap (option_and_then override_of) (found expression_view c.args.«module».now.global_expressions c.args.expression c.in-Ok.found.now c.in-Ok.ensures.value))

pub returns-in-Err : goal.returns-in-Err
returns-in-Err c = sym (ap (option_and_then override_of) (missing expression_view c.args.«module».now.global_expressions c.args.expression (λ lt. true≢false (sym (c.in-Err.ensures.found.1 lt)))))
