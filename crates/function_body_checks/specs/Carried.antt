-- What a walk over a body requires at each place, with its state there: the expressions in scope, and the result expressions of
-- earlier statements.
use Rattle.std.specs.Prelude.{◌≡◌, ◌⊎◌, ℕ, ◌+◌, Bool, true, false, ◌||◌, if◌then◌else◌, nat_eq, List, [], ◌∷◌, ◌++◌, All, Option, Some, None, Contains, slice_get}
use Rattle.function_body_checks.specs.declared.error.ScopeError.{ScopeError}
use Rattle.function_body_checks.specs.declared.error.ScopeError.TheVariants as scope_error
use Rattle.typing_errors.specs.declared.expressions.ExpressionError.TheVariants.{NotInScope}
use Rattle.typing_errors.specs.declared.error.FunctionError.{FunctionError}
use Rattle.typing_errors.specs.declared.error.FunctionError.TheVariants as error
use Rattle.typing_errors.specs.declared.atomics.AtomicError.{AtomicError}
use Rattle.typing_errors.specs.declared.atomics.AtomicError.TheVariants as atomic_error
use Rattle.typing_errors.specs.declared.calls.CallError.{CallError}
use Rattle.typing_errors.specs.declared.calls.CallError.TheVariants as call_error
use Rattle.ir_blocks.specs.judged.Places.{Place, condition, Spot, nothing, statement, loop_condition, spot_at}
use Rattle.ir_blocks.specs.judged.Places as at
use Rattle.ir_blocks.specs.judged.Shapes.{Part, case_at, case_body}
use Rattle.ir_blocks.specs.judged.Plain.{PlainStatement, emit, block, if_, switch, loop, break, continue, return, kill, operation, call, PlainBlock, stop, next, PlainCases, no_case, case}
use Rattle.ir_types.specs.judged.ExpressionPlain.{PlainExpression}
use Rattle.ir_items.specs.judged.Plain.{PlainFunction}
use Rattle.ir_places.specs.Paths.{later_by}
use Rattle.spec_expressions.specs.judged.StatementNames.{statement_callee}
use Rattle.spec_statements.specs.found.Answered.{answered_in, answered_at, answered_before, answered_before_case}
use Rattle.spec_statements.specs.judged.Results.{answer_of}
use Rattle.spec_statements.specs.judged.Scope.{PreEmitted, is_pre_emitted}
use Rattle.spec_statements.specs.judged.Tables.{checked_at, introduced, introduced_at}
use Rattle.spec_statements.specs.judged.Visible.{top_level, visible}

-- the expression named by the error; none if out of memory
abbrev pub IfFault : ScopeError → (FunctionError → Type 0) → Type 0
IfFault (scope_error.Memory e) P = Unit {0}
IfFault (scope_error.Unknown e) P = P (error.Expression e NotInScope)
IfFault (scope_error.UnknownArgument function index) P = P (error.InvalidCall function (call_error.Argument index NotInScope))
IfFault (scope_error.Known e) P = P (error.ExpressionAlreadyInScope e)
IfFault (scope_error.KnownResult function answer) P = P (error.InvalidCall function (call_error.ResultAlreadyInScope answer))
IfFault (scope_error.Answered function answer) P = P (error.InvalidCall function (call_error.ResultAlreadyPopulated answer))
IfFault (scope_error.AnsweredAtomic answer) P = P (error.InvalidAtomic (atomic_error.ResultAlreadyPopulated answer))

abbrev pub Known : PlainFunction → (scope : List ℕ) → ℕ → Type 0
Known f scope e = PreEmitted f e ⊎ Contains scope e

-- the result expression of the statement at a place, and its callee
abbrev pub answer_at : Spot → Option ℕ
answer_at nothing = None
answer_at (statement s) = answer_of s
answer_at (loop_condition break_if) = None

abbrev pub callee_at : Spot → Option ℕ
callee_at nothing = None
callee_at (statement s) = statement_callee s
callee_at (loop_condition break_if) = None

-- uses are in scope, introductions are not yet, and results are distinct
pub record Fine (f : PlainFunction) (asked : Bool) (spot : Spot) (scope answered : List ℕ) : Type 0 where
  pub used : All (Known f scope) (checked_at spot)
  pub fresh : All (λ e. ¬ Known f scope e) (introduced_at spot)
  pub once : (e : ℕ) → answer_at spot ≡ Some e → ¬ Contains answered e
  pub asks : (e : ℕ) → answer_at spot ≡ Some e → asked ≡ true

-- ---- searches among operands

-- whether an expression is one of these
abbrev pub holds : List ℕ → ℕ → Bool
holds [] e = false
holds (x ∷ xs) e = nat_eq x e || holds xs e

abbrev pub pre_known : Option PlainExpression → Bool
pre_known None = false
pre_known (Some x) = is_pre_emitted x

-- whether it is in scope
abbrev pub known : PlainFunction → (scope : List ℕ) → ℕ → Bool
known f scope e = holds scope e || pre_known (slice_get f.expressions e)

-- the first of these that fails the test
abbrev pub first_lacking : (ℕ → Bool) → List ℕ → Option ℕ
first_lacking test [] = None
first_lacking test (e ∷ es) = if test e then first_lacking test es else Some e

-- the same by index, if the first one has this index
abbrev pub place_lacking : (ℕ → Bool) → (place : ℕ) → List ℕ → Option ℕ
place_lacking test place [] = None
place_lacking test place (e ∷ es) = if test e then place_lacking test (place + 1) es else Some place

-- the expression enters the scope, or is already in it
abbrev pub IsBrought : PlainFunction → (old new : List ℕ) → ℕ → (brought : Bool) → Type 0
IsBrought f old new e true = (new ≡ old ++ e ∷ []) × ¬ Known f old e
IsBrought f old new e false = (new ≡ old) × Known f old e

-- all of them enter the scope, or one of them is already in it
abbrev pub AreBrought : PlainFunction → (old new : List ℕ) → List ℕ → (known : Option ℕ) → Type 0
AreBrought f old new es None = (new ≡ old ++ es) × All (λ e. ¬ Known f old e) es
AreBrought f old new es (Some e) = Contains es e × Known f old e

-- the result expression is noted, if any: it is required, and was not noted before
abbrev pub IsNoted : (asked : Bool) → (old new : List ℕ) → (answer : Option ℕ) → Type 0
IsNoted asked old new None = new ≡ old
IsNoted asked old new (Some e) = (new ≡ old ++ e ∷ []) × (¬ Contains old e) × (asked ≡ true)

-- ---- errors at a place

-- an expression is used out of scope
abbrev pub IsUnknown : PlainFunction → (scope : List ℕ) → List ℕ → ℕ → Type 0
IsUnknown f scope used e = Contains used e × ¬ Known f scope e

-- results are not required, or the expression is already a result
abbrev pub IsAgain : (asked : Bool) → (answered : List ℕ) → ℕ → Type 0
IsAgain asked answered e = (asked ≡ false) ⊎ Contains answered e

abbrev pub IsCallError : PlainFunction → (asked : Bool) → Spot → (scope answered : List ℕ) → CallError → Type 0
IsCallError f asked spot scope answered (call_error.Argument place source) = (source ≡ NotInScope) × ((e : ℕ) × (slice_get (checked_at spot) place ≡ Some e) × ¬ Known f scope e)
IsCallError f asked spot scope answered (call_error.ResultAlreadyInScope e) = Contains (introduced_at spot) e × Known f scope e
IsCallError f asked spot scope answered (call_error.ResultAlreadyPopulated e) = (answer_at spot ≡ Some e) × IsAgain asked answered e
IsCallError f asked spot scope answered _ = ⊥

-- an argument of a call is out of scope
abbrev pub IsArgumentError : PlainFunction → (scope : List ℕ) → (function : ℕ) → (arguments : List ℕ) → FunctionError → Type 0
IsArgumentError f scope function arguments (error.InvalidCall called (call_error.Argument place source)) =
    (called ≡ function) × (source ≡ NotInScope) × ((e : ℕ) × (slice_get arguments place ≡ Some e) × ¬ Known f scope e)
IsArgumentError f scope function arguments _ = ⊥

abbrev pub IsAtomicError : (asked : Bool) → Spot → (answered : List ℕ) → AtomicError → Type 0
IsAtomicError asked spot answered (atomic_error.ResultAlreadyPopulated e) = (answer_at spot ≡ Some e) × IsAgain asked answered e
IsAtomicError asked spot answered _ = ⊥

abbrev pub IsFaultHere : PlainFunction → (asked : Bool) → Spot → (scope answered : List ℕ) → FunctionError → Type 0
IsFaultHere f asked spot scope answered (error.Expression e source) = (callee_at spot ≡ None) × (source ≡ NotInScope) × IsUnknown f scope (checked_at spot) e
IsFaultHere f asked spot scope answered (error.ExpressionAlreadyInScope e) = (callee_at spot ≡ None) × Contains (introduced_at spot) e × Known f scope e
IsFaultHere f asked spot scope answered (error.InvalidCall function e) = (callee_at spot ≡ Some function) × IsCallError f asked spot scope answered e
IsFaultHere f asked spot scope answered (error.InvalidAtomic e) = (callee_at spot ≡ None) × IsAtomicError asked spot answered e
IsFaultHere f asked spot scope answered _ = ⊥

-- ---- along a body

module _ (f : PlainFunction) (asked : Bool) where
  abbrev mutual
    pub AllFine : (scope answered : List ℕ) → PlainBlock → Type 0
    AllFine scope answered stop = Unit {0}
    AllFine scope answered (next s rest) = FineWithin scope answered s × AllFine (scope ++ introduced s) (answered ++ answered_at s) rest

    -- of a statement, and of what stands inside it
    pub FineWithin : (scope answered : List ℕ) → PlainStatement → Type 0
    FineWithin scope answered (emit first end) = Fine f asked (statement (emit first end)) scope answered
    FineWithin scope answered (block b) = AllFine scope answered b
    FineWithin scope answered (if_ test accept reject) =
        All (Known f scope) (test ∷ []) × (AllFine scope answered accept × AllFine scope (answered ++ answered_in accept) reject)
    FineWithin scope answered (switch selector cases) = All (Known f scope) (selector ∷ []) × FineInCases scope answered cases
    FineWithin scope answered (loop body continuing break_if) =
        AllFine scope answered body
        × (AllFine (scope ++ top_level body) (answered ++ answered_in body) continuing
        × All (Known f ((scope ++ top_level body) ++ top_level continuing)) (checked_at (loop_condition break_if)))
    FineWithin scope answered break = Fine f asked (statement break) scope answered
    FineWithin scope answered continue = Fine f asked (statement continue) scope answered
    FineWithin scope answered (return value) = Fine f asked (statement (return value)) scope answered
    FineWithin scope answered kill = Fine f asked (statement kill) scope answered
    FineWithin scope answered (operation a) = Fine f asked (statement (operation a)) scope answered
    FineWithin scope answered (call function arguments answer) = Fine f asked (statement (call function arguments answer)) scope answered

    pub FineInCases : (scope answered : List ℕ) → PlainCases → Type 0
    FineInCases scope answered no_case = Unit {0}
    FineInCases scope answered (case value body falls rest) = AllFine scope answered body × FineInCases scope (answered ++ answered_in body) rest

  -- the error occurs at a place of a body, with this scope and these results at its start
  abbrev pub FaultAt : (scope answered : List ℕ) → PlainBlock → ScopeError → Place → Type 0
  FaultAt scope answered b e p = IfFault e (IsFaultHere f asked (spot_at p b) (visible scope p b) (answered_before answered p b))

  -- the same for a statement, relative to a block that has it at an index, whatever follows
  abbrev pub FaultFrom : (scope answered : List ℕ) → (index : ℕ) → PlainStatement → ScopeError → Place → Type 0
  FaultFrom scope answered k s e p = (q : Place) × (p ≡ later_by k q) × ((rest : PlainBlock) → FaultAt scope answered (next s rest) e q)

  -- of an inner block of that statement
  abbrev pub FaultInPart : (scope answered : List ℕ) → (index : ℕ) → Part → PlainBlock → ScopeError → Place → Type 0
  FaultInPart scope answered k part b e p = (q : Place) × (p ≡ later_by k (at.inside part q)) × FaultAt scope answered b e q

  -- of a case of that statement
  abbrev pub FaultInCase : (scope answered : List ℕ) → (index : ℕ) → PlainCases → ScopeError → Place → Type 0
  FaultInCase scope answered k cases e p = (c : ℕ) × FaultInPart scope (answered ++ answered_before_case cases c) k (case_at c) (case_body cases c) e p

  -- of its condition
  abbrev pub FaultAtCondition : (scope answered : List ℕ) → (index : ℕ) → Option ℕ → ScopeError → Place → Type 0
  FaultAtCondition scope answered k break_if e p = (p ≡ later_by k condition) × IfFault e (IsFaultHere f asked (loop_condition break_if) scope answered)
