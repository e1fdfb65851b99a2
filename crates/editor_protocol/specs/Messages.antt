-- The kinds of messages.
use Rattle.std.specs.Prelude.{◌≡◌, ◌||◌, ℕ, List, Bool, true, false, Option, Some, None, is_some, codes, option_and_then, if◌then◌else◌}
use Rattle.std.specs.Str.{bytes_eq}
use Rattle.serde_json.specs.Data.{Data, null, boolean, number, string, array, object}
use Rattle.serde_json.specs.Find.{get, as_str}
use Rattle.serde_json.specs.View.{view}
use Rattle.editor_protocol.specs.declared.message.Message.{Message}
use Rattle.editor_protocol.specs.declared.message.Message.TheVariants as message

-- A request has a response with its id; a notification and a response have none.
pub data Kind : Type 0 where
  request : (id : Data) → Kind
  notification : Kind
  response : Kind
  no_message : Kind

-- an id is a number or a string
abbrev pub is_id : Data → Bool
is_id null = false
is_id (boolean b) = false
is_id (number n) = true
is_id (string s) = true
is_id (array ds) = false
is_id (object ms) = false

-- the string at a key of an object
abbrev pub text_at : List ℕ → Data → Option (List ℕ)
text_at key d = option_and_then as_str (get key d)

abbrev pub is_version : Option (List ℕ) → Bool
is_version None = false
is_version (Some version) = bytes_eq version (codes "2.0")

-- the kind of a message with a method, by its id
abbrev pub by_id : Option Data → Kind
by_id None = notification
by_id (Some id) = if is_id id then request id else no_message

-- the kind of a message without a method
abbrev pub by_answer : Data → Kind
by_answer d = if is_some (get (codes "result") d) || is_some (get (codes "error") d) then response else no_message

abbrev pub by_method : Option (List ℕ) → Data → Kind
by_method (Some method) d = by_id (get (codes "id") d)
by_method None d = by_answer d

-- the kind of a message of JSON-RPC 2.0
abbrev pub kind_of : Data → Kind
kind_of d = if is_version (text_at (codes "jsonrpc") d) then by_method (text_at (codes "method") d) d else no_message

abbrev pub kind_in : Message → Kind
kind_in (message.Request id method params) = request (view id.now)
kind_in (message.Notification method params) = notification
kind_in message.Response = response
kind_in message.NoMessage = no_message
