-- Compositions: which components make a value.
use Rattle.std.specs.Prelude.{◌≡◌, ℕ, List, Some, length, map, slice_get, sum}
use Rattle.typing_layout.specs.IrTypes.{PlainExpression, PlainInner, PlainMember, PlainType, struct, plain}
use Rattle.ir_kinds.specs.judged.Scalars.{component_count}
use Rattle.ir_kinds.specs.declared.scalars.Scalar.{Scalar}
use Rattle.typing_layout.specs.IrTypes.count as count
use Rattle.typing_layout.specs.IrTypes.inner as inner
use Rattle.typing_rules.specs.judged.Laws.{IsAmong}
use Rattle.spec_expressions.specs.judged.Context.{Context}
use Rattle.spec_expressions.specs.judged.Typing.{HasTypeAmong}
use Rattle.typing_layout.specs.TypingForms.{form_of_type, inner_at, Form, components_of}
use Rattle.typing_layout.specs.TypingForms.form as form

-- ---- vectors

-- a value of this form is this scalar, or a vector of it
abbrev pub IsOfScalar : Scalar → Form → Type 0
IsOfScalar s o = elim o [ form.Scalar t ↦ t ≡ s | form.Vector n t ↦ t ≡ s | _ ↦ ⊥ ]

-- the number of scalars it adds to a vector
abbrev pub scalars_in : Form → ℕ
scalars_in o = elim o [ form.Scalar t ↦ 1 | form.Vector n t ↦ component_count n | _ ↦ 0 ]

-- ---- one kind of type after another

-- A value of this form may be the component at an index: scalars and vectors make a vector, columns a matrix, elements an
-- array of constant length, and members a struct. No other type can be composed.
abbrev pub ComponentFits : List PlainType → PlainInner → (place : ℕ) → Form → Type 0
ComponentFits types (struct members span) place f = (m : PlainMember) → slice_get members place ≡ Some m → f ≡ form_of_type types m.ty
ComponentFits types (plain (inner.Vector n s)) place f = IsOfScalar s f
ComponentFits types (plain (inner.Matrix columns rows s)) place f = f ≡ form.Vector rows s
ComponentFits types (plain (inner.Array base (count.Constant n) stride)) place f = f ≡ form_of_type types base
ComponentFits types _ place f = ⊥

-- the number of parts of the value that a component gives: for a vector its scalars, for other types one
abbrev pub parts_given : PlainInner → List Form → ℕ
parts_given o forms = elim o [ plain (inner.Vector n s) ↦ sum (map scalars_in forms) | _ ↦ length forms ]

-- Values of these forms make a value of this inner type: each fits at its index, and together they give as many parts as it
-- has.
pub record IsComposedOf (types : List PlainType) (i : PlainInner) (forms : List Form) : Type 0 where
  pub fit : (place : ℕ) (f : Form) → slice_get forms place ≡ Some f → ComponentFits types i place f
  pub whole : components_of i ≡ Some (parts_given i forms)

-- they make a value of the type at a handle
pub record ComposeOK (types : List PlainType) (type : ℕ) (forms : List Form) : Type 0 where
  pub i : PlainInner
  pub at : inner_at types type ≡ Some i
  pub made : IsComposedOf types i forms

-- ---- `Compose` expressions

-- The components of a composition have types whose forms make a value of its declared type.
pub record ComponentsOK (context : Context) (expressions : List PlainExpression) (type : ℕ) (components : List ℕ) : Type 0 where
  pub form : ℕ → Form
  pub typed : (component : ℕ) → IsAmong component components → HasTypeAmong context expressions component (form component)
  pub made : ComposeOK context.types type (map form components)
