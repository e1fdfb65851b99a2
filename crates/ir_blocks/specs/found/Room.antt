-- Capacity for the returns that complete a body.
use Rattle.std.specs.Prelude.{List, [], ◌∷◌, Bool, true, false, ◌&&◌, ◌||◌, if◌then◌else◌, IsTrue, map, Vec, nat_lt, vec_len, vec_capacity}
use Rattle.ir_blocks.specs.declared.statements.Statement.{Statement}
use Rattle.ir_blocks.specs.declared.statements.Statement.TheOpen.{Statement-F, Block-F, SwitchCase-F}
use Rattle.ir_blocks.specs.declared.statements.Statement.TheFolds.{fold-Statement, fold-Block, fold-SwitchCase}
use Rattle.ir_blocks.specs.declared.statements.Block.{Block, out-Block}
use Rattle.ir_blocks.specs.declared.statements.SwitchCase.{SwitchCase}

-- of a statement: whether control continues after it, and whether its tail blocks have room
pub record EndRoom : Type 0 where
  pub on : Bool
  pub parts : Bool

-- whether all of these have room
abbrev pub each_room : List Bool → Bool
each_room [] = true
each_room (r ∷ rs) = r && each_room rs

-- one layer, whose nested blocks are already replaced by whether they have room
abbrev pub statement_room_step : Statement-F EndRoom Bool Bool → EndRoom
statement_room_step (Statement-F.Block b) = record { on = false; parts = b }
statement_room_step (Statement-F.If condition accept reject) = record { on = false; parts = accept && reject }
statement_room_step (Statement-F.Switch selector cases) = record { on = false; parts = each_room cases.items }
statement_room_step Statement-F.Break = record { on = false; parts = true }
statement_room_step Statement-F.Continue = record { on = false; parts = true }
statement_room_step (Statement-F.Return value) = record { on = false; parts = true }
statement_room_step Statement-F.Kill = record { on = false; parts = true }
statement_room_step _ = record { on = true; parts = true }

-- of a block, by whether it has room for one more itself: at an open end it needs that room, and otherwise the
-- tail blocks of its last statement need theirs
abbrev pub end_room : Bool → List EndRoom → Bool
end_room own [] = own
end_room own (s ∷ []) = if s.on then own else s.parts
end_room own (s ∷ t ∷ rest) = end_room own (t ∷ rest)

-- whether a vector has spare capacity
abbrev pub has_spare : {A Z : Type 0} → Vec A Z → Bool
has_spare v = nat_lt (vec_len v) (vec_capacity v)

abbrev pub block_room_step : Block-F EndRoom Bool Bool → Bool
block_room_step b = end_room (has_spare b.body) b.body.items

abbrev pub case_room_step : SwitchCase-F EndRoom Bool Bool → Bool
case_room_step c = c.fall_through || c.body

abbrev pub statement_room : Statement → EndRoom
statement_room = fold-Statement EndRoom Bool Bool statement_room_step block_room_step case_room_step

abbrev pub block_room : Block → Bool
block_room = fold-Block EndRoom Bool Bool statement_room_step block_room_step case_room_step

abbrev pub case_room : SwitchCase → Bool
case_room = fold-SwitchCase EndRoom Bool Bool statement_room_step block_room_step case_room_step

-- the block itself has room for one more statement
abbrev pub own_room : Block → Bool
own_room b = has_spare (out-Block b).body

abbrev pub HasOwnRoom : Block → Type 0
HasOwnRoom b = IsTrue (own_room b)

-- each block of the body to which a return is added has room for it
abbrev pub HasRoom : Block → Type 0
HasRoom b = IsTrue (block_room b)

-- the same for the tail blocks of a statement, for a case, and for a list of cases
abbrev pub HasRoomWithin : Statement → Type 0
HasRoomWithin s = IsTrue (statement_room s).parts

abbrev pub HasRoomInCase : SwitchCase → Type 0
HasRoomInCase c = IsTrue (case_room c)

abbrev pub HasRoomInCases : List SwitchCase → Type 0
HasRoomInCases cs = IsTrue (each_room (map case_room cs))
