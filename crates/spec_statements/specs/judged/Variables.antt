-- Expressions that are global variables.
use Rattle.std.specs.Prelude.{ℕ, Option, option_and_then, slice_get}
use Rattle.spec_expressions.specs.IrItems.{PlainGlobal, PlainFunction, PlainModule, base_of, global_of}

-- the global variable of a `GlobalVariable` expression
abbrev pub variable_at : PlainModule → PlainFunction → ℕ → Option PlainGlobal
variable_at m f e = option_and_then (slice_get m.globals) (option_and_then global_of (slice_get f.expressions e))

-- the global variable that is the base of an access
abbrev pub accessed_at : PlainModule → PlainFunction → ℕ → Option PlainGlobal
accessed_at m f e = option_and_then (variable_at m f) (option_and_then base_of (slice_get f.expressions e))
