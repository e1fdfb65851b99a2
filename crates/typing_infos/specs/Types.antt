-- The types of the expressions of a list.
use Rattle.std.specs.Prelude.{◌≡◌, ℕ, ◌<◌, List, Some, length, slice_get, Result, Ok, Err}
use Rattle.ir_types.specs.judged.ExpressionPlain.{PlainExpression}
use Rattle.spec_expressions.specs.judged.Context.{Context, NamesItem}
use Rattle.spec_expressions.specs.judged.Typing.{typing_operands, HasTypeAmong}
use Rattle.typing_rules.specs.judged.Laws.{IsAmong}
use Rattle.typing_forms.specs.declared.form.Form.{Form}
use Rattle.typing_forms.specs.declared.resolution.TypeResolution.{TypeResolution}
use Rattle.typing_errors.specs.Answers.{form_given, fault_of, ReportsFault, IsAnswer}
use Rattle.typing_errors.specs.declared.resolve_error.ResolveError.{ResolveError}
use Rattle.typing_errors.specs.declared.resolve_error.ResolveRefusal.{ResolveRefusal}
use Rattle.typing_infos.specs.declared.refusal.TypingRefusal.{TypingRefusal}
use Rattle.typing_infos.specs.declared.refusal.TypingRefusal.TheVariants.{Memory, Fault}

-- each item that an expression refers to exists
abbrev pub ItemsNamed : Context → List PlainExpression → Type 0
ItemsNamed c expressions = (e : ℕ) (x : PlainExpression) → slice_get expressions e ≡ Some x → NamesItem c x

-- the first expressions have these types
abbrev pub TypedSoFar : Context → List PlainExpression → List TypeResolution → Type 0
TypedSoFar c expressions types = (e : ℕ) (r : TypeResolution) → slice_get types e ≡ Some r → HasTypeAmong c expressions e (form_given c.types r)

-- all expressions have these types
pub record AreTypes (c : Context) (expressions : List PlainExpression) (types : List TypeResolution) : Type 0 where
  pub len : length types ≡ length expressions
  pub each : TypedSoFar c expressions types

-- each expression before this index has a type
abbrev pub TypedBefore : Context → List PlainExpression → ℕ → Type 0
TypedBefore c expressions place = (e : ℕ) → e < place → (t : Form) × HasTypeAmong c expressions e t

-- The expression has no type, as the error reports, and each earlier one has one.
pub record IsUntypedFirst (c : Context) (expressions : List PlainExpression) (place : ℕ) (error : ResolveError) : Type 0 where
  pub tells : ReportsFault c expressions place (fault_of error)
  pub before : TypedBefore c expressions place

-- The error is out of memory, or that of the first expression that has no type.
abbrev pub IsFirstUntyped : Context → List PlainExpression → TypingRefusal → Type 0
IsFirstUntyped c expressions (Memory error) = Unit {0}
IsFirstUntyped c expressions (Fault expression error) = IsUntypedFirst c expressions expression error

-- ---- one expression

-- each operand whose type matters is below this index
abbrev pub OperandsBelow : ℕ → PlainExpression → Type 0
OperandsBelow end expression = (o : ℕ) → IsAmong o (typing_operands expression) → o < end

-- a result for an expression, in any list where its operands have these types and at any index where it occurs there
abbrev pub Decided : Context → List TypeResolution → PlainExpression → Result TypeResolution ResolveRefusal → Type 0
Decided c types expression result =
    (expressions : List PlainExpression) (place : ℕ) → slice_get expressions place ≡ Some expression → TypedSoFar c expressions types → IsAnswer c expressions place result

-- a result for the expression at an index
abbrev pub IsTypedBy : Context → List PlainExpression → ℕ → Result TypeResolution TypingRefusal → Type 0
IsTypedBy c expressions place (Ok t) = HasTypeAmong c expressions place (form_given c.types t)
IsTypedBy c expressions place (Err (Memory error)) = Unit {0}
IsTypedBy c expressions place (Err (Fault expression error)) = (expression ≡ place) × ReportsFault c expressions expression (fault_of error)

abbrev pub DecidedAt : Context → List TypeResolution → ℕ → PlainExpression → Result TypeResolution TypingRefusal → Type 0
DecidedAt c types place expression result =
    (expressions : List PlainExpression) → slice_get expressions place ≡ Some expression → TypedSoFar c expressions types → IsTypedBy c expressions place result
