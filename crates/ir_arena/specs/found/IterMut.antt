-- The items of an iterator over an arena with mutable references.
use Rattle.std.specs.Prelude.{ℕ, List}
use Rattle.std.specs.Borrow.{GName, MutBor}
use Rattle.std.specs.List.{enumerate_from}
use Rattle.std.specs.Slice.Iter.{iter_mut_rest, iter_mut_name}
use Rattle.ir_arena.specs.declared.iter_mut.IterMut.{IterMut}

module _ {T K : Type 0} where
  -- the remaining values, with their handles
  abbrev pub values_to_come : IterMut T K → List (ℕ × T)
  values_to_come it = enumerate_from it.place (iter_mut_rest it.values)

  -- the identifier of its loan
  abbrev pub loan_name : IterMut T K → GName
  loan_name it = iter_mut_name it.values

-- a handle with a mutable reference
abbrev pub handle_with_value_to_change : {T : Type 0} → ℕ × MutBor T → ℕ × T
handle_with_value_to_change p = (p.0, p.1.now)
