-- Equivalence of types.
use Rattle.std.specs.Prelude.{◌≡◌, List, length}
use Rattle.ir_types.specs.judged.Plain.{PlainType}
use Rattle.typing_forms.specs.judged.Forms.{form_of}
use Rattle.typing_forms.specs.judged.Resolutions.{PlainResolution, IsAmong}

-- both exist, and they have the same canonical form
pub record AreEquivalent (types : List PlainType) (a b : PlainResolution) : Type 0 where
  pub first_among : IsAmong (length types) a
  pub second_among : IsAmong (length types) b
  pub same_form : form_of types a ≡ form_of types b

abbrev pub EquivalentToItself : Type 0
EquivalentToItself = (types : List PlainType) (a : PlainResolution) → IsAmong (length types) a → AreEquivalent types a a

abbrev pub EquivalentBothWays : Type 0
EquivalentBothWays = (types : List PlainType) (a b : PlainResolution) → AreEquivalent types a b → AreEquivalent types b a

abbrev pub EquivalentAlong : Type 0
EquivalentAlong = (types : List PlainType) (a b c : PlainResolution) → AreEquivalent types a b → AreEquivalent types b c → AreEquivalent types a c
