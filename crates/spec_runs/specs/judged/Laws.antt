-- Laws of runs.
use Rattle.std.specs.Prelude.{◌≡◌, ◌<◌, ℕ, ℤ, List, [], Some, slice_get}
use Rattle.std.specs.List.{AllByRecursion}
use Rattle.ir_items.specs.judged.Plain.{PlainFunction, PlainEntry, PlainModule}
use Rattle.spec_runs.specs.judged.Events.{Event}
use Rattle.spec_runs.specs.judged.Machine.{Frame, Configuration, Task, eval, trace}
use Rattle.spec_runs.specs.judged.Scoping.{UsedOperands, checked_operands, all_operands, with_skipped, without_skipped, IsLawful, IsScoped}
use Rattle.ir_blocks.specs.judged.Places.{Place, OccursAt}
use Rattle.ir_blocks.specs.judged.Plain.{PlainStatement}
use Rattle.ir_types.specs.judged.ExpressionPlain.{PlainExpression}
use Rattle.spec_expressions.specs.judged.ExpressionNames.{expression_operands}
use Rattle.spec_expressions.specs.judged.StatementNames.{statement_result}
use Rattle.spec_statements.specs.judged.Scope.{ScopeOK}
use Rattle.spec_statements.specs.judged.Strict.{StrictOK}

-- P holds of each event of each run of the entry point that records the uses of these operands
abbrev pub OnEveryRunOf : UsedOperands → PlainModule → PlainEntry → (Event → Type 0) → Type 0
OnEveryRunOf u m e P = (answers : List ℤ) (n : ℕ) → AllByRecursion P (trace u m e answers n)

-- the operands that must be in scope are recorded
abbrev pub OnEveryRun : PlainModule → PlainEntry → (Event → Type 0) → Type 0
OnEveryRun = OnEveryRunOf checked_operands

-- any two bounds on nesting above the number of steps give the same run: the bound never ends it
abbrev pub NestingCutsNoRun : Type 0
NestingCutsNoRun =
    (u : UsedOperands) (m : PlainModule) (most other : ℕ) (frame : Frame) (task : Task) (now : Configuration) → now.steps < most → now.steps < other
    → eval u m most frame task now ≡ eval u m other frame task now

-- lawful: the top level keeps all that it introduces, and skipped expressions may be used
abbrev pub SkippedIsLawful : Type 0
SkippedIsLawful = IsLawful with_skipped

-- the operands that must be in scope are scoped so, if the scope of the function is valid
abbrev pub ScopeSuffices : Type 0
ScopeSuffices = (f : PlainFunction) → ScopeOK f → IsScoped checked_operands with_skipped f

-- lawful: the top level keeps what no continue may skip, and skipped expressions may not be used
abbrev pub StrictIsLawful : Type 0
StrictIsLawful = IsLawful without_skipped

-- statement results have no operands
abbrev pub AnswersNameNothing : PlainFunction → Type 0
AnswersNameNothing f =
    (p : Place) (s : PlainStatement) → OccursAt f.body p s → (e : ℕ) → statement_result s ≡ Some e → (x : PlainExpression) → slice_get f.expressions e ≡ Some x → expression_operands x ≡ []

-- all operands are scoped so, and those that must be in scope without the strict check, if the function's strict scope is valid
abbrev pub StrictSuffices : Type 0
StrictSuffices = (f : PlainFunction) → StrictOK f → AnswersNameNothing f → IsScoped all_operands without_skipped f × IsScoped checked_operands without_skipped f
