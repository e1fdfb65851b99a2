-- What a layer knows of the diagnostic filters of its module.
use Rattle.std.specs.Prelude.{List, [], Option, Some, None, Vec}
use Rattle.std.specs.declared.alloc.Global.{Global}
use Rattle.typing_uniformity.specs.Nearest.{AreNearest}
use Rattle.ir_items.specs.judged.Plain.{PlainModule}
use Rattle.ir_kinds.specs.declared.diagnostics.Severity.{Severity}

-- the known severity of each node, if any
abbrev pub severities_in : Option (Vec (Option Severity) Global) → List (Option Severity)
severities_in (Some severities) = severities.items
severities_in None = []

-- the known severities are those of the module's filters
abbrev pub AreKnown : PlainModule → Option (Vec (Option Severity) Global) → Type 0
AreKnown m severities = AreNearest m.filters (severities_in severities)
