use Rattle.std.proofs.Common.{◌≡◌, map, take}
use Rattle.ir_arena.specs.found.Copies.{entry_of}
use Rattle.ir_arena.proofs.arena.Arena.clone.Given as goal

-- the copy has the entries so far
abbrev pub invariant-loop-place : goal.invariant-loop-place
invariant-loop-place g l = map (entry_of g.T.Copied.view) l.copy ≡ map (entry_of g.T.Copied.view) (take l.place l.self)
