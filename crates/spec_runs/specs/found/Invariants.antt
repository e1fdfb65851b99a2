-- An invariant of all events of a run, from the events that may arise in each frame.
use Rattle.std.specs.Prelude.{◌≡◌, ℕ, ℤ, List, ◌∷◌, ◌++◌, [], Option, Some, Contains, slice_get}
use Rattle.std.specs.List.{AllByRecursion}
use Rattle.ir_blocks.specs.judged.Control.{ControlOK}
use Rattle.ir_blocks.specs.judged.Places.{Place, OccursAt, spot_at}
use Rattle.ir_blocks.specs.judged.Plain.{PlainStatement, call, return}
use Rattle.ir_items.specs.judged.Plain.{PlainFunction, PlainModule}
use Rattle.spec_statements.specs.judged.Scope.{Introduces}
use Rattle.spec_statements.specs.judged.Tables.{introduced}
use Rattle.spec_runs.specs.judged.Events.{Event, entered, executed, introduced_expression, used, passed, returned, fell_off}
use Rattle.spec_runs.specs.judged.Machine.{Frame, mentioned_at, introduced_operands, callee_frame, entry_frame, trace_of}
use Rattle.spec_statements.specs.found.SureLevel.{visible_by}
use Rattle.spec_runs.specs.judged.Scoping.{UsedOperands, Scoping, IsLawful, AreUsable}

-- In each valid frame the statements leave their blocks in allowed ways only, P holds of the events that may arise there, and the
-- frames of calls are valid. A use may arise if all that is in scope at its place is live, and the uses of an introduced
-- expression also if all that its statement introduced before is live.
pub record IsInvariant (u : UsedOperands) (g : Scoping) (m : PlainModule) (Fine : Frame → Type 0) (P : Event → Type 0) : Type 0 where
  pub control : (frame : Frame) → Fine frame → ControlOK frame.function.body
  pub calls : (frame : Frame) → Fine frame → (p : Place) (function : ℕ) (arguments : List ℕ) (result : Option ℕ) (callee : PlainFunction) → OccursAt frame.function.body p (call function arguments result) → slice_get m.functions function ≡ Some callee
      → Fine (callee_frame frame callee arguments) × P (passed frame.function callee arguments)
  pub enters : (frame : Frame) → Fine frame → P (entered frame.depth)
  pub executes : (frame : Frame) → Fine frame → (p : Place) (s : PlainStatement) → OccursAt frame.function.body p s → P (executed frame.function p)
  pub introduces : (frame : Frame) → Fine frame → (p : Place) (e : ℕ) → Introduces frame.function.body p e → P (introduced_expression frame.function e)
  pub mentions : (frame : Frame) → Fine frame → (e : ℕ) → AllByRecursion P (mentioned_at frame (slice_get frame.function.expressions e))
  pub uses : (frame : Frame) → Fine frame → (p : Place) (live skipped : List ℕ) → AreUsable g frame.function live skipped (visible_by g.level [] p frame.function.body)
      → (o : ℕ) → Contains (u.at_spot (spot_at p frame.function.body)) o → P (used frame.function live skipped o)
  pub uses_of_introduced : (frame : Frame) → Fine frame → (p : Place) (s : PlainStatement) → OccursAt frame.function.body p s → (before : List ℕ) (e : ℕ) (after : List ℕ) → introduced s ≡ before ++ (e ∷ after)
      → (live skipped : List ℕ) → AreUsable g frame.function live skipped (visible_by g.level [] p frame.function.body ++ before)
      → (o : ℕ) → Contains (introduced_operands u (slice_get frame.function.expressions e)) o → P (used frame.function live skipped o)
  pub returns : (frame : Frame) → Fine frame → (p : Place) (value : Option ℕ) → OccursAt frame.function.body p (return value) → P (returned frame.function value)
  pub falls : (frame : Frame) → Fine frame → (last : Option Place) → P (fell_off frame.function last)

-- then P holds of all events of a run of a function whose frame is valid
abbrev pub InvariantsHold : Type 1
InvariantsHold =
    (u : UsedOperands) (g : Scoping) → IsLawful g → (m : PlainModule) (Fine : Frame → Type 0) (P : Event → Type 0) → IsInvariant u g m Fine P
    → (f : PlainFunction) → Fine (entry_frame f) → (answers : List ℤ) (n : ℕ) → AllByRecursion P (trace_of u m f answers n)
