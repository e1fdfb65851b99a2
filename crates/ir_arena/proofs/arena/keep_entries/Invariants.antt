use Rattle.std.proofs.Common.{◌≡◌, ◌≤◌, ◌++◌, take, drop, length}
use Rattle.ir_arena.specs.found.Retains.{KeepsAt, RetainsFrom}
use Rattle.ir_arena.proofs.arena.keep_entries.Given as goal

abbrev pub invariant-loop-place : goal.invariant-loop-place
invariant-loop-place g l =
    record {
      callable : goal.F-IsAlwaysCallable g l.keep;
      behind : l.kept ≤ l.place;
      as_many : length l.entries ≡ length l.fn.entries;
      so_far : (others : _) → RetainsFrom (KeepsAt g.F.FnMut) l.keep l.place (drop l.place l.entries) others → RetainsFrom (KeepsAt g.F.FnMut) l.fn.keep 0 l.fn.entries (take l.kept l.entries ++ others);
    }
