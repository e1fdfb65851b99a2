use Rattle.std.proofs.Common.{◌≡◌, map, take}
use Rattle.ir_arena.proofs.copied.copy_list.Given as goal

-- the copy has the items so far
abbrev pub invariant-loop-item : goal.invariant-loop-item
invariant-loop-item g l = map g.T.Copied.view l.copy.items ≡ map g.T.Copied.view (take l.item-index l.items)
