-- The severities at all nodes of diagnostic filters.
use Rattle.std.specs.Prelude.{◌≡◌, ℕ, List, Option, Some, slice_get}
use Rattle.ir_items.specs.judged.GlobalPlain.{PlainFilterNode}
use Rattle.ir_kinds.specs.declared.diagnostics.Severity.{Severity}
use Rattle.ir_kinds.specs.declared.diagnostics.StandardFilterableTriggeringRule.TheVariants.{DerivativeUniformity}
use Rattle.spec_expressions.specs.judged.Severity.{IsNearest}

-- each is the severity of the nearest derivative filter from the node at its index on, if there is one
abbrev pub AreNearest : List PlainFilterNode → List (Option Severity) → Type 0
AreNearest nodes known = (handle : ℕ) (found : Option Severity) → slice_get known handle ≡ Some found → IsNearest nodes (Some handle) DerivativeUniformity found
