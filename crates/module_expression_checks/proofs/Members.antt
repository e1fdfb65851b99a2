-- Structs of two members.
use Rattle.std.proofs.Common.{◌≡◌, ◌≢◌, ◌↔◌, List, [], ◌∷◌, Option, Some, None, map, length, get_or, refl, subst, arith}
use Rattle.ir_types.specs.judged.Plain.{PlainType, member_view}
use Rattle.ir_types.specs.declared.types.StructMember.{StructMember}
use Rattle.spec_statements.specs.judged.ExpressionResults.{AreExchanged, AreExchangeMembers}
use Rattle.typing_forms.specs.declared.form.Form.{Form}

-- one test of the first two members
abbrev Reported : List PlainType → (old exchanged : StructMember) → Option Form → Form → Type 0
Reported types old exchanged r of = (r ≡ Some of) ↔ AreExchanged (λ found. found ≡ of) types (member_view old) (member_view exchanged)

pub two : (types : List PlainType) (ms : List StructMember) (old exchanged : StructMember) (r : Option Form) (of : Form) → length ms ≡ 2
    → old ≡ get_or ms 0 old → exchanged ≡ get_or ms 1 exchanged
    → (r ≡ Some of) ↔ AreExchanged (λ found. found ≡ of) types (member_view old) (member_view exchanged)
    → (r ≡ Some of) ↔ AreExchangeMembers (λ found. found ≡ of) types (map member_view ms)
two types [] old exchanged r of many first second is = absurd (omega (arith, many))
two types (a ∷ []) old exchanged r of many first second is = absurd (omega (arith, many))
two types (a ∷ b ∷ []) old exchanged r of many first second is =
    subst (λ x. Reported types x b r of) first (subst (λ x. Reported types old x r of) second is)
two types (a ∷ b ∷ c ∷ rest) old exchanged r of many first second is = absurd (omega (arith, many))

pub other : (types : List PlainType) (ms : List StructMember) → length ms ≢ 2
    → (of : Form) → (None ≡ Some of) ↔ AreExchangeMembers (λ found. found ≡ of) types (map member_view ms)
other types [] many of = (λ t. cc, λ h. absurd h)
other types (a ∷ []) many of = (λ t. cc, λ h. absurd h)
other types (a ∷ b ∷ []) many of = absurd (many refl)
other types (a ∷ b ∷ c ∷ rest) many of = (λ t. cc, λ h. absurd h)
