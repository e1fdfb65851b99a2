-- The responses to messages.
use Rattle.std.specs.Prelude.{◌≡◌, ℕ, List, not, Some, is_some, codes, string_bytes}
use Rattle.serde_json.specs.Data.{Data, null, string}
use Rattle.serde_json.specs.Find.{get}
use Rattle.serde_json.specs.Written.{IsInOrder}

-- An object is a response to the request with this id: it has either a result or an error.
pub record IsResponseTo (id object : Data) : Type 0 where
  pub version : get (codes "jsonrpc") object ≡ Some (string (codes "2.0"))
  pub under : get (codes "id") object ≡ Some id
  pub outcome : is_some (get (codes "result") object) ≡ not (is_some (get (codes "error") object))

-- a text is the JSON of such an object
pub record IsResponse (id : Data) (text : List ℕ) : Type 0 where
  pub object : Data
  pub spelled : IsInOrder text object
  pub answers : IsResponseTo id object
