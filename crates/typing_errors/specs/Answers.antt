-- The meaning of a typing result: a canonical form, or a fault.
use Rattle.std.specs.Prelude.{ℕ, List, Option, Some, None, Result, Ok, Err, option_map}
use Rattle.ir_types.specs.judged.Plain.{PlainType}
use Rattle.ir_types.specs.judged.ExpressionPlain.{PlainExpression}
use Rattle.spec_expressions.specs.judged.Context.{Context}
use Rattle.spec_expressions.specs.found.Laws.{IsFaulty}
use Rattle.spec_expressions.specs.judged.Typing.{HasTypeAmong}
use Rattle.spec_expressions.specs.TypingForms.{Form, TypeResolution, form_of, resolution_view}
use Rattle.spec_expressions.specs.declared.faults.TypingFault.{TypingFault}
use Rattle.spec_expressions.specs.declared.faults.TypingFault.TheVariants as fault
use Rattle.typing_errors.specs.declared.resolve_error.ResolveError.{ResolveError}
use Rattle.typing_errors.specs.declared.resolve_error.ResolveError.TheVariants as error
use Rattle.typing_errors.specs.declared.resolve_error.ResolveRefusal.{ResolveRefusal}
use Rattle.typing_errors.specs.declared.resolve_error.ResolveRefusal.TheVariants.{Memory, Fault}

-- the canonical form of a result
abbrev pub form_given : List PlainType → TypeResolution → Form
form_given types r = form_of types (resolution_view r)

-- the canonical form of a result that may be a fault
abbrev pub form_answer : List PlainType → Result TypeResolution TypingFault → Result Form TypingFault
form_answer types (Ok r) = Ok (form_given types r)
form_answer types (Err f) = Err f

-- the fault that an error reports; two errors report none, and no rule returns them
abbrev pub fault_of : ResolveError → Option TypingFault
fault_of (error.OutOfBoundsIndex expr index) = Some (fault.OutOfBoundsIndex expr index)
fault_of (error.InvalidAccess expr indexed) = Some (fault.InvalidAccess expr indexed)
fault_of (error.InvalidSubAccess type indexed) = None
fault_of (error.InvalidScalar expr) = Some (fault.InvalidScalar expr)
fault_of (error.InvalidVector expr) = Some (fault.InvalidVector expr)
fault_of (error.InvalidPointer expr) = Some (fault.InvalidPointer expr)
fault_of (error.InvalidImage expr) = Some (fault.InvalidImage expr)
fault_of (error.FunctionNotDefined name) = None
fault_of error.FunctionReturnsVoid = Some fault.FunctionReturnsVoid
fault_of (error.IncompatibleOperands text) = Some fault.IncompatibleOperands
fault_of (error.FunctionArgumentNotFound number) = Some (fault.FunctionArgumentNotFound number)
fault_of error.MissingSpecialType = Some fault.MissingSpecialType
fault_of (error.BuiltinArgumentsInvalid text) = Some fault.BuiltinArgumentsInvalid

-- the form or the fault that a result denotes; otherwise the result is out of memory
abbrev pub told : List PlainType → (otherwise : Option (Result Form TypingFault)) → Result TypeResolution ResolveRefusal → Option (Result Form TypingFault)
told types otherwise (Ok r) = Some (Ok (form_given types r))
told types otherwise (Err (Fault e)) = option_map (λ f. Err f) (fault_of e)
told types otherwise (Err (Memory e)) = otherwise

-- The expression at a place has this fault, and no type.
pub record IsFault (context : Context) (expressions : List PlainExpression) (place : ℕ) (f : TypingFault) : Type 0 where
  pub faulty : IsFaulty context expressions place f
  pub none : (t : Form) → HasTypeAmong context expressions place t → ⊥

abbrev pub ReportsFault : Context → List PlainExpression → ℕ → Option TypingFault → Type 0
ReportsFault context expressions place (Some f) = IsFault context expressions place f
ReportsFault context expressions place None = ⊥

-- A result for the expression at a place: the given type, which it has, or the reported fault.
abbrev pub IsAnswer : Context → List PlainExpression → ℕ → Result TypeResolution ResolveRefusal → Type 0
IsAnswer context expressions place (Ok r) = HasTypeAmong context expressions place (form_given context.types r)
IsAnswer context expressions place (Err (Fault e)) = ReportsFault context expressions place (fault_of e)
IsAnswer context expressions place (Err (Memory e)) = Unit {0}
