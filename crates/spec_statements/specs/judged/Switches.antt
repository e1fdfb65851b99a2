-- The rules of `Switch`.
use Rattle.std.specs.Prelude.{◌≡◌, ◌≢◌, List, [], ◌∷◌, Bool, false, Contains, IsSomeAnd}
use Rattle.std.specs.List.{AllPairs}
use Rattle.ir_blocks.specs.judged.Plain.{PlainCases, no_case, case}
use Rattle.ir_kinds.specs.declared.scalars.ScalarKind.{ScalarKind}
use Rattle.ir_kinds.specs.declared.scalars.ScalarKind.TheVariants.{Sint, Uint}
use Rattle.ir_kinds.specs.declared.values.SwitchValue.{SwitchValue}
use Rattle.ir_kinds.specs.declared.values.SwitchValue.TheVariants.{I32, U32, Default}
use Rattle.spec_expressions.specs.TypingForms.{Form}
use Rattle.spec_statements.specs.judged.Shapes.{IsInteger, shaped_of}

abbrev pub case_values : PlainCases → List SwitchValue
case_values no_case = []
case_values (case value body falls rest) = value ∷ case_values rest

-- the value has the selector's kind
abbrev pub FitsKind : ScalarKind → SwitchValue → Type 0
FitsKind kind v = elim v [ I32 z ↦ kind ≡ Sint | U32 n ↦ kind ≡ Uint | Default ↦ Unit {0} ]

-- whether the last of these cases falls through, or the given value if there is none
abbrev pub falls_at_end : Bool → PlainCases → Bool
falls_at_end falls no_case = falls
falls_at_end falls (case value body f rest) = falls_at_end f rest

-- The values have this kind and differ, exactly one case is the default, and the last case doesn't fall through.
pub record CasesOK (kind : ScalarKind) (cases : PlainCases) : Type 0 where
  pub fit : (v : SwitchValue) → Contains (case_values cases) v → FitsKind kind v
  pub differ : AllPairs (λ v w. v ≢ w) (case_values cases)
  pub default : Contains (case_values cases) Default
  pub ends : falls_at_end false cases ≡ false

-- the selector consists of integers, in any shape, and the cases have their kind
abbrev pub SwitchOK : (selector : Form) → PlainCases → Type 0
SwitchOK selector cases = IsSomeAnd (shaped_of selector) (λ x. IsInteger x.scalar.kind × CasesOK x.scalar.kind cases)
