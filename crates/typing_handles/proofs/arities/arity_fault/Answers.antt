use Rattle.std.proofs.Common.{◌≡◌, Some}
use Rattle.ir_blocks.specs.judged.Places.{OccursAt}
use Rattle.ir_blocks.specs.judged.Plain.{PlainStatement}
use Rattle.ir_items.specs.found.View.{function_view, module_view}
use Rattle.ir_places.proofs.TrailLaws.{placed_then}
use Rattle.typing_handles.proofs.OrderLaws.{arities, wrong_found}
use Rattle.typing_handles.specs.Tests.{PassesWrongCount, arity_fault_of}
use Rattle.typing_handles.proofs.arities.arity_fault.Goals as goal

pub returns-in-Some : goal.returns-in-Some
returns-in-Some c =
    let m = module_view c.args.«module».now in
    let f = function_view c.args.function.now in
    placed_then c.placed_in.new.trail (λ p. (s : PlainStatement) × OccursAt f.body p s × (arity_fault_of m s ≡ Some c.in-Some.fault)) (PassesWrongCount m f c.in-Some.fault) (wrong_found m f c.in-Some.fault) c.in-Some.ensures

pub returns-in-None : goal.returns-in-None
returns-in-None c = arities (module_view c.args.«module».now) (function_view c.args.function.now) c.in-None.ensures
