-- The origins of chains of accesses, in a table.
use Rattle.std.specs.Prelude.{◌≡◌, ℕ, List, Option, Some, None, slice_get}
use Rattle.ir_types.specs.judged.ExpressionPlain.{PlainExpression}
use Rattle.spec_statements.specs.judged.Stores.{base_at}

-- the entry of an expression with this base: that of the base; without one, the expression itself
abbrev pub root_by : (roots : List ℕ) → (handle : ℕ) → (base : Option ℕ) → Option ℕ
root_by roots handle None = Some handle
root_by roots handle (Some base) = slice_get roots base

-- for each entry
abbrev pub AreRoots : List PlainExpression → List ℕ → Type 0
AreRoots expressions roots = (handle root : ℕ) → slice_get roots handle ≡ Some root → root_by roots handle (base_at expressions handle) ≡ Some root
