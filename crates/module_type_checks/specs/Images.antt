-- The error of vertex return.
use Rattle.std.specs.Prelude.{Bool}
use Rattle.ir_flags.specs.declared.settings.Capabilities.{Capabilities}
use Rattle.typing_layout.specs.found.Faults.{LacksVertices}
use Rattle.typing_layout.specs.declared.type_error.TypeError.{TypeError}
use Rattle.typing_layout.specs.declared.type_error.TypeError.TheVariants as error

abbrev pub IsVerticesFault : Capabilities → (vertex_return : Bool) → TypeError → Type 0
IsVerticesFault capabilities vertex_return (error.MissingCapability c) = LacksVertices capabilities vertex_return c
IsVerticesFault capabilities vertex_return _ = ⊥
