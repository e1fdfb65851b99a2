-- What a walk over a body requires for strict scope, with the scope at each place.
use Rattle.std.specs.Prelude.{◌≡◌, ◌⊎◌, ℕ, if◌then◌else◌, List, [], ◌∷◌, ◌++◌, All, Option, Some, None, Contains, length, take, slice_get}
use Rattle.function_body_checks.specs.Carried.{Known, IsUnknown, callee_at}
use Rattle.typing_errors.specs.declared.expressions.ExpressionError.TheVariants.{NotInScope}
use Rattle.typing_errors.specs.declared.error.FunctionError.{FunctionError}
use Rattle.typing_errors.specs.declared.error.FunctionError.TheVariants as error
use Rattle.typing_errors.specs.declared.calls.CallError.TheVariants as call_error
use Rattle.ir_arena.specs.judged.Handles.{handles_between}
use Rattle.ir_blocks.specs.judged.Places.{Place, Spot, nothing, statement, loop_condition, spot_at}
use Rattle.ir_blocks.specs.judged.Places as at
use Rattle.ir_blocks.specs.judged.Plain.{PlainStatement, emit, block, if_, switch, loop, break, continue, return, kill, operation, call, PlainBlock, stop, next, PlainCases, no_case, case}
use Rattle.ir_blocks.specs.judged.Shapes.{Part, case_at, case_body}
use Rattle.ir_types.specs.judged.ExpressionPlain.{plain}
use Rattle.ir_types.specs.declared.expressions.Expression.TheVariants.{RayQueryProceedResult, SubgroupBallotResult}
use Rattle.ir_items.specs.judged.Plain.{PlainFunction}
use Rattle.ir_places.specs.Paths.{later_by}
use Rattle.spec_statements.specs.judged.Strict.{statement_needed, needed_at}
use Rattle.spec_statements.specs.found.SureLevel.{holds_continue, sure_level, visible_by}
use Rattle.spec_statements.specs.judged.Tables.{introduced, introduced_at}
use Rattle.spec_statements.specs.judged.Visible.{top_level}
use Rattle.function_strict_scope.specs.Tables.{operands_given, proceeds_by, ballots_by}
use Rattle.function_strict_scope.specs.declared.error.StrictError.{StrictError}
use Rattle.function_strict_scope.specs.declared.error.StrictError.TheVariants as strict_error

-- the expression named by the error; none if out of memory
abbrev pub IfFault : StrictError → (FunctionError → Type 0) → Type 0
IfFault (strict_error.Memory e) P = Unit {0}
IfFault (strict_error.Unknown e) P = P (error.Expression e NotInScope)
IfFault (strict_error.UnknownArgument function index) P = P (error.InvalidCall function (call_error.Argument index NotInScope))
IfFault (strict_error.Known e) P = P (error.ExpressionAlreadyInScope e)
IfFault (strict_error.OtherAnswer e) P = P (error.StrictResultMismatch e)

-- ---- ranges

-- each of these enters the scope in order, with its operands known
abbrev pub EachKnown : PlainFunction → (sure : List ℕ) → List ℕ → Type 0
EachKnown f sure [] = Unit {0}
EachKnown f sure (e ∷ es) = All (Known f sure) (operands_given (slice_get f.expressions e)) × EachKnown f (sure ++ e ∷ []) es

-- the emitted range
abbrev pub emitted_by : PlainStatement → List ℕ
emitted_by (emit first end) = handles_between (first, end)
emitted_by (block b) = []
emitted_by (if_ condition accept reject) = []
emitted_by (switch selector cases) = []
emitted_by (loop body continuing break_if) = []
emitted_by break = []
emitted_by continue = []
emitted_by (return value) = []
emitted_by kill = []
emitted_by (operation a) = []
emitted_by (call function arguments result) = []

abbrev pub emitted_at : Spot → List ℕ
emitted_at nothing = []
emitted_at (statement s) = emitted_by s
emitted_at (loop_condition break_if) = []

-- an operand of one of these is not known when it enters the scope
abbrev pub IsEarlyOperand : PlainFunction → (sure : List ℕ) → List ℕ → ℕ → Type 0
IsEarlyOperand f sure [] o = ⊥
IsEarlyOperand f sure (e ∷ es) o = IsUnknown f sure (operands_given (slice_get f.expressions e)) o ⊎ IsEarlyOperand f (sure ++ e ∷ []) es o

-- one of these enters the scope again
abbrev pub IsAgainIn : (sure : List ℕ) → List ℕ → ℕ → Type 0
IsAgainIn sure [] x = ⊥
IsAgainIn sure (e ∷ es) x = ((x ≡ e) × Contains sure x) ⊎ IsAgainIn (sure ++ e ∷ []) es x

-- an operand of an emitted expression is not known, or an introduced expression is already in scope
abbrev pub IsFaultOfNew : PlainFunction → (sure emitted introduced : List ℕ) → FunctionError → Type 0
IsFaultOfNew f sure emitted introduced (error.Expression o source) = (source ≡ NotInScope) × IsEarlyOperand f sure emitted o
IsFaultOfNew f sure emitted introduced (error.ExpressionAlreadyInScope e) = IsAgainIn sure introduced e
IsFaultOfNew f sure emitted introduced _ = ⊥

-- ---- the rule of a statement

-- a result has its own kind
pub record AnswerKindOK (f : PlainFunction) (s : PlainStatement) : Type 0 where
  pub proceeds : (e : ℕ) → proceeds_by s ≡ Some e → slice_get f.expressions e ≡ Some (plain RayQueryProceedResult)
  pub ballots : (e : ℕ) → ballots_by s ≡ Some e → slice_get f.expressions e ≡ Some (plain SubgroupBallotResult)

pub record Meets (f : PlainFunction) (s : PlainStatement) (sure : List ℕ) : Type 0 where
  pub used : All (Known f sure) (statement_needed s)
  pub emitted : EachKnown f sure (emitted_by s)
  pub kind : AnswerKindOK f s

-- ---- errors at a place

abbrev pub IsOtherAnswer : PlainFunction → Spot → ℕ → Type 0
IsOtherAnswer f nothing e = ⊥
IsOtherAnswer f (statement s) e =
    ((proceeds_by s ≡ Some e) × ¬ (slice_get f.expressions e ≡ Some (plain RayQueryProceedResult))) ⊎ ((ballots_by s ≡ Some e) × ¬ (slice_get f.expressions e ≡ Some (plain SubgroupBallotResult)))
IsOtherAnswer f (loop_condition break_if) e = ⊥

abbrev pub IsFaultHere : PlainFunction → Spot → (sure : List ℕ) → FunctionError → Type 0
IsFaultHere f spot sure (error.Expression o source) =
    (source ≡ NotInScope) × (((callee_at spot ≡ None) × IsUnknown f sure (needed_at spot) o) ⊎ IsEarlyOperand f sure (emitted_at spot) o)
IsFaultHere f spot sure (error.InvalidCall function (call_error.Argument place source)) =
    (callee_at spot ≡ Some function) × (source ≡ NotInScope) × ((o : ℕ) × (slice_get (needed_at spot) place ≡ Some o) × ¬ Known f sure o)
IsFaultHere f spot sure (error.StrictResultMismatch e) = IsOtherAnswer f spot e
-- only if a body introduces an expression again
IsFaultHere f spot sure (error.ExpressionAlreadyInScope e) = IsAgainIn sure (introduced_at spot) e
IsFaultHere f spot sure _ = ⊥

-- ---- what remains in scope

-- the size of the scope after the first statement with a `Continue`, if there is one
abbrev pub left_in : (sure : List ℕ) → PlainBlock → Option ℕ
left_in sure stop = None
left_in sure (next s rest) = if holds_continue s then Some (length (sure ++ introduced s)) else left_in (sure ++ introduced s) rest

abbrev pub first_left : Option ℕ → Option ℕ → Option ℕ
first_left (Some n) other = Some n
first_left None other = other

abbrev pub cut_to : Option ℕ → List ℕ → List ℕ
cut_to (Some n) es = take n es
cut_to None es = es

-- ---- along a body

module _ (f : PlainFunction) where
  abbrev mutual
    pub AllMeet : (sure : List ℕ) → PlainBlock → Type 0
    AllMeet sure stop = Unit {0}
    AllMeet sure (next s rest) = MeetWithin sure s × AllMeet (sure ++ introduced s) rest

    -- of a statement, and of what stands inside it
    pub MeetWithin : (sure : List ℕ) → PlainStatement → Type 0
    MeetWithin sure (emit first end) = Meets f (emit first end) sure
    MeetWithin sure (block b) = AllMeet sure b
    MeetWithin sure (if_ test accept reject) = All (Known f sure) (test ∷ []) × (AllMeet sure accept × AllMeet sure reject)
    MeetWithin sure (switch selector cases) = All (Known f sure) (selector ∷ []) × MeetInCases sure cases
    MeetWithin sure (loop body continuing break_if) =
        AllMeet sure body × (AllMeet (sure ++ sure_level body) continuing × All (Known f ((sure ++ sure_level body) ++ top_level continuing)) (needed_at (loop_condition break_if)))
    MeetWithin sure break = Meets f break sure
    MeetWithin sure continue = Meets f continue sure
    MeetWithin sure (return value) = Meets f (return value) sure
    MeetWithin sure kill = Meets f kill sure
    MeetWithin sure (operation a) = Meets f (operation a) sure
    MeetWithin sure (call function arguments answer) = Meets f (call function arguments answer) sure

    pub MeetInCases : (sure : List ℕ) → PlainCases → Type 0
    MeetInCases sure no_case = Unit {0}
    MeetInCases sure (case value body falls rest) = AllMeet sure body × MeetInCases sure rest

  -- the error occurs at a place of a body, with this scope at its start
  abbrev pub FaultAt : (sure : List ℕ) → PlainBlock → StrictError → Place → Type 0
  FaultAt sure b e p = IfFault e (IsFaultHere f (spot_at p b) (visible_by sure_level sure p b))

  -- the same for a statement, relative to a block that has it at an index, whatever follows
  abbrev pub FaultFrom : (sure : List ℕ) → (index : ℕ) → PlainStatement → StrictError → Place → Type 0
  FaultFrom sure k s e p = (q : Place) × (p ≡ later_by k q) × ((rest : PlainBlock) → FaultAt sure (next s rest) e q)

  -- of an inner block of that statement
  abbrev pub FaultInPart : (sure : List ℕ) → (index : ℕ) → Part → PlainBlock → StrictError → Place → Type 0
  FaultInPart sure k part b e p = (q : Place) × (p ≡ later_by k (at.inside part q)) × FaultAt sure b e q

  -- of a case of that statement
  abbrev pub FaultInCase : (sure : List ℕ) → (index : ℕ) → PlainCases → StrictError → Place → Type 0
  FaultInCase sure k cases e p = (c : ℕ) × FaultInPart sure k (case_at c) (case_body cases c) e p

  -- of its condition
  abbrev pub FaultAtCondition : (sure : List ℕ) → (index : ℕ) → Option ℕ → StrictError → Place → Type 0
  FaultAtCondition sure k break_if e p = (p ≡ later_by k at.condition) × IfFault e (IsFaultHere f (loop_condition break_if) sure)
