-- Pairs as integer codes, by whose order they are looked up.
use Rattle.std.specs.Prelude.{◌≡◌, ◌+◌, ◌*◌, ℕ, List}
use Rattle.std.specs.List.{list_any}
use Rattle.std.specs.BTreeSet.{BTreeSet, contains}
use Rattle.std.specs.Ordering.{nat_cmp, ordering_then}
use Rattle.std.specs.declared.cmp.Ordering.{Ordering}
use Rattle.spec_expressions.specs.declared.sampling.GlobalOrArgument.{GlobalOrArgument}
use Rattle.spec_expressions.specs.declared.sampling.GlobalOrArgument.TheVariants.{Global, Argument}
use Rattle.spec_expressions.specs.judged.Pairs.{SamplingPair, pair_eq}

-- an even number for a global variable, an odd one for an argument
abbrev pub part_code : GlobalOrArgument → ℕ
part_code (Global g) = 2 * g
part_code (Argument number) = 2 * number + 1

abbrev pub code_of : SamplingPair → ℕ × ℕ
code_of p = (part_code p.0, part_code p.1)

abbrev pub code_cmp : ℕ × ℕ → ℕ × ℕ → Ordering
code_cmp p q = ordering_then (nat_cmp p.0 q.0) (nat_cmp p.1 q.1)

-- the codes are those of the pairs
abbrev pub IsIndexOf : BTreeSet (ℕ × ℕ) → List SamplingPair → Type 0
IsIndexOf codes pairs = (p : SamplingPair) → contains code_cmp codes (code_of p) ≡ list_any (pair_eq p) pairs
