-- Calls that pass another number of arguments, where the functions called are there.
use Rattle.std.proofs.Common.{◌≡◌, ℕ, length, Some, None, refl, sym, ap, ◌∙◌}
use Rattle.spec_expressions.proofs.Members.{get-within}
use Rattle.typing_errors.specs.declared.error.FunctionError.TheVariants as error
use Rattle.typing_errors.specs.declared.calls.CallError.TheVariants as call_error
use Rattle.ir_blocks.specs.judged.Places.{Place}
use Rattle.ir_items.specs.judged.Plain.{PlainFunction, PlainModule}
use Rattle.ir_places.proofs.TrailLaws.{placed_then}
use Rattle.ir_places.specs.Paths.{IsPlaced}
use Rattle.ir_places.specs.declared.trail.Trail.{Trail}
use Rattle.function_interface.specs.Arities.{IsArityFaultAt}
use Rattle.spec_expressions.specs.judged.FunctionHandles.{HandlesInRange}
use Rattle.spec_expressions.specs.judged.References.{done, statement_calls}
use Rattle.typing_handles.specs.Tests.{PassesWrongCount, count_of}
use Rattle.typing_handles.specs.declared.arities.ArityFault.{ArityFault}

pub never_missing : (m : PlainModule) (f : PlainFunction) (x : ArityFault) (p : Place) → HandlesInRange m f → PassesWrongCount m f x p → x.required ≡ None → ⊥
never_missing m f x p there w none =
    let found = get-within m.functions x.function (there (done p) _ (statement_calls w.stands refl)) in
    let e : None ≡ Some (length found.0.arguments) = sym none ∙ w.has ∙ ap count_of found.1 in
    cc

-- where the function called has some number of arguments
pub arity_told : (t : Trail) (m : PlainModule) (f : PlainFunction) (x : ArityFault) (required : ℕ) → x.required ≡ Some required → IsPlaced t (PassesWrongCount m f x)
    → IsPlaced t (IsArityFaultAt m f (error.InvalidCall x.function (call_error.ArgumentCount required x.seen)))
arity_told t m f x required is =
    placed_then t (PassesWrongCount m f x) (IsArityFaultAt m f (error.InvalidCall x.function (call_error.ArgumentCount required x.seen))) (λ p w.
    record { arguments = w.arguments; answer = w.answer; stands = w.stands; has = sym is ∙ w.has; passed = w.passed; differs = λ e. w.differs (is ∙ e) })
