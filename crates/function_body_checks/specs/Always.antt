-- The expressions of a function that are in scope everywhere.
use Rattle.std.specs.Prelude.{ℕ, Bool, List, length, slice_get}
use Rattle.ir_items.specs.judged.Plain.{PlainFunction}
use Rattle.ir_sets.specs.Next.{AreNext}
use Rattle.function_body_checks.specs.Carried.{pre_known}

-- whether an expression is in scope everywhere
abbrev pub always_in : PlainFunction → ℕ → Bool
always_in f e = pre_known (slice_get f.expressions e)

-- for each expression the first one from it on that is
abbrev pub AreAlways : PlainFunction → List ℕ → Type 0
AreAlways f next = AreNext (always_in f) (length f.expressions) next
