-- The broken rules of indices.
use Rattle.std.specs.Prelude.{◌≡◌, ◌<◌, ◌≤◌, ℕ, ℤ, pos, negsuc, List, Option, Some, None, IfSome, option_and_then}
use Rattle.ir_types.specs.judged.ExpressionPlain.{PlainExpression}
use Rattle.ir_types.specs.judged.Plain.{PlainType}
use Rattle.typing_forms.specs.declared.form.Form.{Form}
use Rattle.spec_statements.specs.judged.Access.{known_length, literal_of, index_of, IsIndexOf}
use Rattle.spec_statements.specs.judged.Shapes.{IsIntegerScalar}
use Rattle.check_causes.specs.declared.access.AccessCause.{AccessCause}
use Rattle.check_causes.specs.declared.access.AccessCause.TheVariants.{NoInteger, Negative, Outside}

-- the static index is in bounds
abbrev pub WithinOK : (parts : Option ℕ) → (written : Option PlainExpression) → Type 0
WithinOK parts written = IfSome (option_and_then index_of (option_and_then literal_of written)) (IsIndexOf parts)

abbrev pub IsNegative : ℤ → Type 0
IsNegative z = elim z [ pos n ↦ ⊥ | negsuc n ↦ Unit {0} ]

-- the index is not below this length
abbrev pub BrokenPart : (parts : Option ℕ) → (index : ℕ) → AccessCause → Type 0
BrokenPart parts index (NoInteger given) = ⊥
BrokenPart parts index (Negative z) = ⊥
BrokenPart parts index (Outside given count) = (given ≡ index) × (parts ≡ Some count) × (count ≤ index)

-- the same for an optional static index
abbrev pub BrokenIndex : (parts : Option ℕ) → (index : Option ℤ) → AccessCause → Type 0
BrokenIndex parts index (NoInteger given) = ⊥
BrokenIndex parts index (Negative z) = (index ≡ Some z) × IsNegative z
BrokenIndex parts index (Outside given count) = (index ≡ Some (pos given)) × (parts ≡ Some count) × (count ≤ given)

abbrev pub BrokenAccess : List PlainType → (base index : Form) → (written : Option PlainExpression) → AccessCause → Type 0
BrokenAccess types base index written (NoInteger given) = (given ≡ index) × ¬ IsIntegerScalar index
BrokenAccess types base index written (Negative z) = BrokenIndex (known_length types base) (option_and_then index_of (option_and_then literal_of written)) (Negative z)
BrokenAccess types base index written (Outside given count) = BrokenIndex (known_length types base) (option_and_then index_of (option_and_then literal_of written)) (Outside given count)
