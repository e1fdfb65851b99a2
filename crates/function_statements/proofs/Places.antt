-- What is required of each statement, and what one is refused for, as the body is judged.
use Rattle.std.proofs.Common.{◌≡◌, subst, sym}
use Rattle.std.proofs.lemmas.Option.{slice_get_within}
use Rattle.typing_errors.specs.declared.error.FunctionError.{FunctionError}
use Rattle.ir_blocks.specs.judged.Places.{Place, OccursAt}
use Rattle.ir_blocks.specs.judged.Plain.{PlainStatement, emit, block, if_, switch, loop, break, continue, return, kill, operation, call, PlainBlock}
use Rattle.ir_items.specs.judged.Plain.{PlainFunction, PlainModule}
use Rattle.spec_expressions.specs.judged.CallArities.{AritiesMatch}
use Rattle.spec_statements.specs.judged.BlockContext.{BlockContext}
use Rattle.spec_statements.specs.judged.Statements.{StatementOK}
use Rattle.function_statements.specs.Bodies.{HasCallee, Meets, IsWrong}
use Rattle.function_statements.specs.Faults.{IsBodyFaultAt}
use Rattle.function_statements.specs.declared.error.StatementError.TheVariants.{Fault}

callee_there : (m : PlainModule) (f : PlainFunction) → AritiesMatch m f → (p : Place) (u : PlainStatement) → OccursAt f.body p u → HasCallee m u
callee_there m f ok p (emit first end) stands = tt
callee_there m f ok p (block b) stands = tt
callee_there m f ok p (if_ test accept reject) stands = tt
callee_there m f ok p (switch selector cases) stands = tt
callee_there m f ok p (loop body continuing break_if) stands = tt
callee_there m f ok p break stands = tt
callee_there m f ok p continue stands = tt
callee_there m f ok p (return value) stands = tt
callee_there m f ok p kill stands = tt
callee_there m f ok p (operation a) stands = tt
callee_there m f ok p (call function arguments answer) stands =
    let found = ok p function arguments answer stands in slice_get_within m.functions function found.0 found.1

pub all_fine : (c : BlockContext) → AritiesMatch c.m c.f → (b : PlainBlock) → b ≡ c.f.body → ((p : Place) (u : PlainStatement) → OccursAt b p u → Meets c u)
    → (p : Place) (u : PlainStatement) → OccursAt c.f.body p u → StatementOK c u
all_fine c ok b is h p u stands = h p u (subst (λ x. OccursAt x p u) (sym is) stands) (callee_there c.m c.f ok p u stands)

pub one_wrong : (c : BlockContext) (e : FunctionError) (b : PlainBlock) → b ≡ c.f.body → (p : Place) → (u : PlainStatement) × OccursAt b p u × IsWrong c (Fault e) u → IsBodyFaultAt c e p
one_wrong c e b is p h = record { statement = h.0; stands = subst (λ x. OccursAt x p h.0) is h.1; wrong = h.2 }
