-- The components of a swizzle pattern, index by index.
use Rattle.std.specs.Prelude.{◌≡◌, ◌<◌, ℕ, List, Some, slice_get}
use Rattle.ir_kinds.specs.judged.Scalars.{component_count, component_place}
use Rattle.ir_kinds.specs.declared.scalars.SwizzleComponent.{SwizzleComponent}
use Rattle.ir_kinds.specs.declared.scalars.VectorSize.{VectorSize}

-- a component at a used index is in bounds
abbrev pub MayStand : (size : VectorSize) → (place : ℕ) → SwizzleComponent → (of : VectorSize) → Type 0
MayStand size place letter of = place < component_count size → component_place letter < component_count of

-- all components before an index are
pub record StandBelow (size : VectorSize) (pattern : List SwizzleComponent) (of : VectorSize) (many : ℕ) : Type 0 where
  pub each : (place : ℕ) (letter : SwizzleComponent) → place < many → slice_get pattern place ≡ Some letter → MayStand size place letter of
