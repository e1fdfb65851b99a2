-- A message with its header.
use Rattle.std.specs.Prelude.{◌≡◌, ℕ, List, [], ◌∷◌, ◌++◌, Option, Some, None, codes, decimal, length, vec_len}
use Rattle.editor_protocol.specs.declared.frame.Frames.{Frames}
use Rattle.editor_protocol.specs.declared.frame.Received.{Received}
use Rattle.editor_protocol.specs.declared.frame.Received.TheVariants.{Part, Message, TooLong, NoHeader}
use Rattle.editor_protocol.specs.declared.frame.Stage.{Stage}
use Rattle.editor_protocol.specs.declared.frame.Stage.TheVariants.{Header, Body, Skipped}

-- two line ends (CRLF)
abbrev pub gap : List ℕ
gap = 13 ∷ 10 ∷ 13 ∷ 10 ∷ []

-- the length of the message in digits, followed by the message
abbrev pub frame_of : List ℕ → List ℕ
frame_of message = codes "Content-Length: " ++ decimal (length message) ++ gap ++ message

-- the length of the next message, if its header was read
abbrev pub length_in_stage : Stage → Option ℕ
length_in_stage Header = None
length_in_stage (Body n) = Some n
length_in_stage (Skipped left) = None

abbrev pub announced : Frames → Option ℕ
announced frames = length_in_stage frames.stage

-- no message was read, or one of this length
abbrev pub HasLength : ℕ → Received → Type 0
HasLength n Part = Unit {0}
HasLength n (Message body) = vec_len body ≡ n
HasLength n TooLong = Unit {0}
HasLength n NoHeader = Unit {0}

abbrev pub IsNoMessage : Received → Type 0
IsNoMessage Part = Unit {0}
IsNoMessage (Message body) = ⊥
IsNoMessage TooLong = Unit {0}
IsNoMessage NoHeader = Unit {0}

-- a message that was read follows its header, and has the length in it
abbrev pub IsDue : Option ℕ → Received → Type 0
IsDue None received = IsNoMessage received
IsDue (Some n) received = HasLength n received
