-- The severity of a rule at a node of diagnostic filters.
use Rattle.std.specs.Prelude.{◌≡◌, ◌⊎◌, ℕ, ◌<◌, List, [], ◌∷◌, map, Option, Some, None, slice_get}
use Rattle.std.specs.Option.{option_and_then}
use Rattle.ir_blocks.specs.IrArena.{Span}
use Rattle.ir_kinds.specs.declared.diagnostics.Severity.{Severity}
use Rattle.ir_kinds.specs.declared.diagnostics.Severity.TheVariants.{Error}
use Rattle.ir_kinds.specs.declared.diagnostics.StandardFilterableTriggeringRule.{StandardFilterableTriggeringRule}
use Rattle.ir_items.specs.declared.filters.DiagnosticFilterNode.{DiagnosticFilterNode}
use Rattle.ir_items.specs.judged.GlobalPlain.{PlainFilterNode, standard}
use Rattle.ir_items.specs.found.GlobalView.{node_view, values_of}

-- the nodes of an arena
abbrev pub nodes_of : List (DiagnosticFilterNode × Span) → List PlainFilterNode
nodes_of entries = map node_view (values_of entries)

-- the parent of each node precedes it
abbrev pub ParentsPrecede : List PlainFilterNode → Type 0
ParentsPrecede nodes = (handle parent : ℕ) (node : PlainFilterNode) → slice_get nodes handle ≡ Some node → node.parent ≡ Some parent → parent < handle

-- the path is the node at this handle, its parent, the parent's parent and so on, up to the root
abbrev pub IsPath : List PlainFilterNode → Option ℕ → List PlainFilterNode → Type 0
IsPath nodes start [] = start ≡ None
IsPath nodes start (node ∷ rest) = (option_and_then (slice_get nodes) start ≡ Some node) × IsPath nodes node.parent rest

-- the severity is that of the first node on the path that has the rule, or `Error` if none has it
abbrev pub IsNearest : StandardFilterableTriggeringRule → List PlainFilterNode → Severity → Type 0
IsNearest rule [] severity = severity ≡ Error
IsNearest rule (node ∷ rest) severity =
    (node.rule ≡ standard rule) × (severity ≡ node.severity) ⊎ (¬ (node.rule ≡ standard rule)) × IsNearest rule rest severity

-- the rule has this severity at a node: that of the nearest node with the rule on the path from there
abbrev pub HasSeverity : List PlainFilterNode → Option ℕ → StandardFilterableTriggeringRule → Severity → Type 0
HasSeverity nodes start rule severity = (path : List PlainFilterNode) × IsPath nodes start path × IsNearest rule path severity

-- a rule has at most one severity at a node
abbrev pub OneSeverity : Type 0
OneSeverity = (nodes : List PlainFilterNode) (start : Option ℕ) (rule : StandardFilterableTriggeringRule) (s t : Severity) → HasSeverity nodes start rule s → HasSeverity nodes start rule t → s ≡ t
