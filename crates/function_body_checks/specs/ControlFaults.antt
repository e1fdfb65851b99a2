-- Errors of statements that leave their block.
use Rattle.std.specs.Prelude.{◌≡◌, false, [], Some}
use Rattle.typing_errors.specs.declared.error.FunctionError.{FunctionError}
use Rattle.typing_errors.specs.declared.error.FunctionError.TheVariants as error
use Rattle.ir_blocks.specs.judged.Control.{may_leave, parts_around}
use Rattle.ir_blocks.specs.judged.Places.{Place, OccursAt}
use Rattle.ir_blocks.specs.judged.Plain.{PlainStatement, PlainBlock}
use Rattle.ir_blocks.specs.judged.Shapes.{Exit, breaks, continues, returns, exit_of, shape_of}

-- the statement at the place leaves its block in this way, which is not allowed there
pub record IsLeftWrongly (b : PlainBlock) (place : Place) (exit : Exit) : Type 0 where
  pub statement : PlainStatement
  pub stands : OccursAt b place statement
  pub leaves : exit_of (shape_of statement) ≡ Some exit
  pub refused : may_leave exit (parts_around [] place) ≡ false

abbrev pub IsControlFaultAt : PlainBlock → FunctionError → Place → Type 0
IsControlFaultAt b error.BreakOutsideOfLoopOrSwitch p = IsLeftWrongly b p breaks
IsControlFaultAt b error.ContinueOutsideOfLoop p = IsLeftWrongly b p continues
IsControlFaultAt b error.InvalidReturnSpot p = IsLeftWrongly b p returns
IsControlFaultAt b _ p = ⊥

-- at some place
abbrev pub IsControlFault : PlainBlock → FunctionError → Type 0
IsControlFault b e = (p : Place) × IsControlFaultAt b e p
