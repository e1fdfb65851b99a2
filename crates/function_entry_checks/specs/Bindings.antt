-- Bindings seen so far.
use Rattle.std.specs.Prelude.{ℕ, IsTrue}
use Rattle.std.specs.BTreeSet.{BTreeSet, contains}
use Rattle.std.specs.Ordering.{nat_cmp, ordering_then}
use Rattle.std.specs.declared.cmp.Ordering.{Ordering}
use Rattle.ir_kinds.specs.declared.bindings.ResourceBinding.{ResourceBinding}

abbrev pub pair_cmp : ℕ × ℕ → ℕ × ℕ → Ordering
pair_cmp p q = ordering_then (nat_cmp p.0 q.0) (nat_cmp p.1 q.1)

-- the binding is one of the set
abbrev pub IsSeen : BTreeSet (ℕ × ℕ) → ResourceBinding → Type 0
IsSeen seen b = IsTrue (contains pair_cmp seen (b.group, b.binding))
