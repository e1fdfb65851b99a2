-- The severity of a diagnostic rule in a function.
use Rattle.std.specs.Prelude.{◌≡◌, ◌⊎◌, ℕ, List, [], ◌∷◌, Option, Some, None, slice_get}
use Rattle.std.specs.Option.{option_and_then}
use Rattle.ir_items.specs.judged.GlobalPlain.{PlainFilterNode, standard}
use Rattle.ir_items.specs.judged.Plain.{PlainFunction, PlainModule}
use Rattle.ir_kinds.specs.declared.diagnostics.Severity.{Severity}
use Rattle.ir_kinds.specs.declared.diagnostics.Severity.TheVariants.{Error}
use Rattle.ir_kinds.specs.declared.diagnostics.StandardFilterableTriggeringRule.{StandardFilterableTriggeringRule}

-- the nodes from a handle on, each followed by its parent; none if no node has the handle
abbrev pub FilterChain : List PlainFilterNode → Option ℕ → List PlainFilterNode → Type 0
FilterChain nodes start [] = option_and_then (slice_get nodes) start ≡ None
FilterChain nodes start (node ∷ rest) = (option_and_then (slice_get nodes) start ≡ Some node) × FilterChain nodes node.parent rest

-- the severity of the first of these nodes for the rule, if there is one
abbrev pub FirstSeverity : StandardFilterableTriggeringRule → List PlainFilterNode → Option Severity → Type 0
FirstSeverity rule [] found = found ≡ None
FirstSeverity rule (node ∷ rest) found =
    (node.rule ≡ standard rule) × (found ≡ Some node.severity) ⊎ (¬ (node.rule ≡ standard rule)) × FirstSeverity rule rest found

-- the severity of the nearest node for the rule, from a handle on, if there is one
abbrev pub IsNearest : List PlainFilterNode → Option ℕ → StandardFilterableTriggeringRule → Option Severity → Type 0
IsNearest nodes start rule found = (trail : List PlainFilterNode) × FilterChain nodes start trail × FirstSeverity rule trail found

-- The severity of a rule in a function: that of the nearest filter from the function's leaf on; if there is none, that of
-- the nearest from the module's leaf on; if there is none either, `Error`.
abbrev pub HasSeverity : PlainModule → PlainFunction → StandardFilterableTriggeringRule → Severity → Type 0
HasSeverity m f rule severity = IsNearest m.filters f.leaf rule (Some severity)
    ⊎ IsNearest m.filters f.leaf rule None × (IsNearest m.filters m.leaf rule (Some severity) ⊎ IsNearest m.filters m.leaf rule None × (severity ≡ Error))
