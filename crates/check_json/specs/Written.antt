-- What is written of a JSON text, by its tokens; and the object of a valid module.
use Rattle.std.specs.Prelude.{◌≡◌, ◌++◌, ◌∷◌, ℕ, List, Bool, Some, map, flat_map, codes}
use Rattle.json.specs.Token.{Token, key}
use Rattle.json.specs.Written.{Written}
use Rattle.json.specs.Json as json
use Rattle.json.specs.Tree.{json_tokens}
use Rattle.serde_json.specs.Data.{Data, boolean, string}
use Rattle.serde_json.specs.Find.{get}
use Rattle.serde_json.specs.Written.{IsInOrder, blank, outline}

-- These tokens were written.
pub record Adds (ts : List Token) (old new : Written) : Type 0 where
  pub tokens : new.tokens ≡ old.tokens ++ ts
  pub kept : new.before ≡ old.before

-- They are those of a value.
pub record IsValue (old new : Written) : Type 0 where
  pub value : json.Json
  pub plain : Data
  pub adds : Adds (json_tokens value) old new
  pub same : blank value ≡ outline plain

-- They are those of values, one after the other.
pub record AddsItems (old new : Written) : Type 0 where
  pub values : List json.Json
  pub datas : List Data
  pub adds : Adds (flat_map json_tokens values) old new
  pub same : map blank values ≡ map outline datas

abbrev pub member_tokens : List ℕ × json.Json → List Token
member_tokens m = key m.0 ∷ json_tokens m.1

abbrev pub blank_member : List ℕ × json.Json → List ℕ × json.Json
blank_member m = (m.0, blank m.1)

abbrev pub member_outline : List ℕ × Data → List ℕ × json.Json
member_outline m = (m.0, outline m.1)

-- They are those of members, one after the other.
pub record AddsMembers (old new : Written) : Type 0 where
  pub values : List (List ℕ × json.Json)
  pub datas : List (List ℕ × Data)
  pub adds : Adds (flat_map member_tokens values) old new
  pub same : map blank_member values ≡ map member_outline datas

-- They are those of a value at this key.
pub record IsMember (name : List ℕ) (old new : Written) : Type 0 where
  pub value : json.Json
  pub plain : Data
  pub adds : Adds (key name ∷ json_tokens value) old new
  pub same : blank value ≡ outline plain

-- They are those of the object of a valid module.
pub record IsAcceptedObject (strict : Bool) (old new : Written) : Type 0 where
  pub value : json.Json
  pub plain : Data
  pub adds : Adds (json_tokens value) old new
  pub same : blank value ≡ outline plain
  pub verdict : get (codes "verdict") plain ≡ Some (string (codes "accepted"))
  pub strict_is : get (codes "strict") plain ≡ Some (boolean strict)

-- The text is the JSON of an object that says that the module is valid, and whether scope was checked strictly.
pub record IsAcceptedText (strict : Bool) (text : List ℕ) : Type 0 where
  pub object : Data
  pub spelled : IsInOrder text object
  pub verdict : get (codes "verdict") object ≡ Some (string (codes "accepted"))
  pub strict_is : get (codes "strict") object ≡ Some (boolean strict)
