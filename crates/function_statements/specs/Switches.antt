-- Errors of switches.
use Rattle.std.specs.Prelude.{◌≡◌, ◌⊎◌, ℕ, [], IsSomeAnd}
use Rattle.function_statement_checks.specs.Cases.{IsCaseFault}
use Rattle.typing_errors.specs.declared.error.FunctionError.{FunctionError}
use Rattle.typing_errors.specs.declared.error.FunctionError.TheVariants as error
use Rattle.ir_blocks.specs.judged.Plain.{PlainCases}
use Rattle.ir_types.specs.found.Faults.{error_of, spans_of}
use Rattle.ir_types.specs.declared.refusal.Refusal.{Refusal}
use Rattle.ir_types.specs.declared.refusal.Refusal.TheVariants as refusal
use Rattle.ir_kinds.specs.declared.scalars.ScalarKind.{ScalarKind}
use Rattle.spec_statements.specs.judged.Shapes.{IsInteger, shaped_of}
use Rattle.spec_statements.specs.judged.BlockContext.{BlockContext, form_at}
use Rattle.typing_forms.specs.declared.form.Form.{Form}

-- ---- the selector

-- the form consists of integers of this kind
abbrev pub Selects : Form → ScalarKind → Type 0
Selects selector kind = IsSomeAnd (shaped_of selector) (λ x. (x.scalar.kind ≡ kind) × IsInteger kind)

-- it does not consist of integers
abbrev pub IsSelectorFault : BlockContext → (selector : ℕ) → FunctionError → Type 0
IsSelectorFault c selector (error.InvalidSwitchType e) = (e ≡ selector) × ¬ IsSomeAnd (shaped_of (form_at c selector)) (λ x. IsInteger x.scalar.kind)
IsSelectorFault c selector _ = ⊥

-- ---- the rule

abbrev pub IsSwitchFault : BlockContext → (selector : ℕ) → PlainCases → FunctionError → Type 0
IsSwitchFault c selector cases e = IsSelectorFault c selector e
    ⊎ ((kind : ScalarKind) × Selects (form_at c selector) kind × IsCaseFault kind cases e)

-- there is no memory for the values of the cases
abbrev pub IsSwitchRefusal : BlockContext → (selector : ℕ) → PlainCases → Refusal FunctionError → Type 0
IsSwitchRefusal c selector cases (refusal.Memory e) = (kind : ScalarKind) × Selects (form_at c selector) kind
IsSwitchRefusal c selector cases (refusal.Fault f) = IsSwitchFault c selector cases (error_of f) × (spans_of f ≡ [])
