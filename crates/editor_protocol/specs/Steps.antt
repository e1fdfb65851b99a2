-- The action after a message.
use Rattle.std.specs.Prelude.{ℕ, List, Option, Some, None, string_bytes}
use Rattle.serde_json.specs.Data.{Data, null}
use Rattle.serde_json.specs.Read.{read}
use Rattle.editor_protocol.specs.Messages.{Kind, request, notification, response, no_message, kind_of}
use Rattle.editor_protocol.specs.Replies.{IsResponse}
use Rattle.editor_protocol.specs.declared.server.Next.{Next}
use Rattle.editor_protocol.specs.declared.server.Next.TheVariants.{Nothing, Response, Notice, Judge, End}

-- it is a response with this id
abbrev pub IsUnder : Data → Next → Type 0
IsUnder id Nothing = ⊥
IsUnder id (Response text) = IsResponse id (string_bytes text)
IsUnder id (Notice text) = ⊥
IsUnder id (Judge place) = ⊥
IsUnder id (End status) = ⊥

-- it is not a response
abbrev pub IsSilent : Next → Type 0
IsSilent Nothing = Unit {0}
IsSilent (Response text) = ⊥
IsSilent (Notice text) = Unit {0}
IsSilent (Judge place) = Unit {0}
IsSilent (End status) = Unit {0}

-- nor an exit
abbrev pub IsQuiet : Next → Type 0
IsQuiet Nothing = Unit {0}
IsQuiet (Response text) = ⊥
IsQuiet (Notice text) = Unit {0}
IsQuiet (Judge place) = Unit {0}
IsQuiet (End status) = ⊥

-- A request has one response, with its id. What is not a message has one, with id null. Nothing else has any.
abbrev pub Answers : Kind → Next → Type 0
Answers (request id) next = IsUnder id next
Answers notification next = IsSilent next
Answers response next = IsSilent next
Answers no_message next = IsUnder null next

abbrev pub kind_in_value : Option Data → Kind
kind_in_value None = no_message
kind_in_value (Some d) = kind_of d

-- the kind of the message in a text
abbrev pub kind_in_text : List ℕ → Kind
kind_in_text text = kind_in_value (read text)
