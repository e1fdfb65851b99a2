-- Swizzles.
use Rattle.std.specs.Prelude.{◌≡◌, ◌<◌, ℕ, List, Option, Some, None, IsSomeAnd, slice_get}
use Rattle.ir_kinds.specs.judged.Scalars.{component_count, component_place}
use Rattle.ir_kinds.specs.declared.scalars.SwizzleComponent.{SwizzleComponent}
use Rattle.ir_kinds.specs.declared.scalars.VectorSize.{VectorSize}
use Rattle.spec_expressions.specs.TypingForms.{Form}
use Rattle.spec_statements.specs.judged.Shapes.{shaped_of}
use Rattle.spec_statements.specs.declared.shapes.Shape.{Shape}
use Rattle.spec_statements.specs.declared.shapes.Shape.TheVariants as shape

abbrev pub row_size : Shape → Option VectorSize
row_size s = elim s [ shape.Vector n ↦ Some n | _ ↦ None ]

-- the first components of the pattern, as many as the size, are each in bounds
abbrev pub AreComponents : (size : VectorSize) → (pattern : List SwizzleComponent) → (of : VectorSize) → Type 0
AreComponents size pattern of =
    (place : ℕ) (letter : SwizzleComponent) → place < component_count size → slice_get pattern place ≡ Some letter → component_place letter < component_count of

abbrev pub SwizzleOK : VectorSize → (pattern : List SwizzleComponent) → (of : Form) → Type 0
SwizzleOK size pattern of = IsSomeAnd (shaped_of of) (λ v. IsSomeAnd (row_size v.shape) (AreComponents size pattern))
