-- Result expressions of statements.
use Rattle.std.specs.Prelude.{◌≡◌, ℕ, List, [], ◌∷◌, Option, Some, Bool, true, false, IsSomeAnd, codes}
use Rattle.ir_flags.specs.declared.settings.Capabilities.{Capabilities}
use Rattle.ir_types.specs.judged.Plain.{PlainInner, PlainMember, struct, PlainType}
use Rattle.typing_layout.specs.judged.Flags.{HasFlag, Sized, Constructible}
use Rattle.typing_layout.specs.judged.Widths.{AtomicOK}
use Rattle.typing_layout.specs.judged.View.{type_tree}
use Rattle.spec_expressions.specs.TypingForms.{form_of_type, inner_at, Form}
use Rattle.spec_statements.specs.judged.Shapes.{shaped_of, IsScalarShape, IsBool, IsMadeOf}

-- a valid atomic scalar
abbrev pub IsAtomicValue : Capabilities → Form → Type 0
IsAtomicValue capabilities t = IsSomeAnd (shaped_of t) (λ x. IsScalarShape x.shape × AtomicOK capabilities x.scalar)

-- the old value, which satisfies `IsOld`, and whether it was exchanged
pub record AreExchanged (IsOld : Form → Type 0) (types : List PlainType) (old exchanged : PlainMember) : Type 0 where
  pub old_name : old.name ≡ Some (codes "old_value")
  pub old_type : IsOld (form_of_type types old.ty)
  pub exchanged_name : exchanged.name ≡ Some (codes "exchanged")
  pub exchanged_type : IsMadeOf IsScalarShape IsBool (form_of_type types exchanged.ty)

abbrev pub AreExchangeMembers : (IsOld : Form → Type 0) → List PlainType → List PlainMember → Type 0
AreExchangeMembers IsOld types (old ∷ exchanged ∷ []) = AreExchanged IsOld types old exchanged
AreExchangeMembers IsOld types _ = ⊥

-- a struct with exactly these members
abbrev pub IsExchangeOf : (IsOld : Form → Type 0) → List PlainType → Option PlainInner → Type 0
IsExchangeOf IsOld types o = elim o [ Some (struct members span) ↦ AreExchangeMembers IsOld types members | _ ↦ ⊥ ]

-- with a valid atomic scalar
abbrev pub IsExchange : Capabilities → List PlainType → Option PlainInner → Type 0
IsExchange capabilities = IsExchangeOf (IsAtomicValue capabilities)

-- the result of an atomic operation is a scalar, and that of a compare-exchange a struct with it
abbrev pub AtomicResultTypeOK : Capabilities → List PlainType → (type : ℕ) → (comparison : Bool) → Type 0
AtomicResultTypeOK capabilities types type false = IsAtomicValue capabilities (form_of_type types type)
AtomicResultTypeOK capabilities types type true = IsExchange capabilities types (inner_at types type)

-- types of known size that can be constructed
abbrev pub UniformLoadOK : List PlainType → (type : ℕ) → Type 0
UniformLoadOK types type = HasFlag Sized (type_tree types type) × HasFlag Constructible (type_tree types type)
