-- Scalar types, and the sizes of vectors and matrices.
use Rattle.std.specs.Prelude.{ℕ, Bool, ◌==◌, ◌&&◌}
use Rattle.ir_kinds.specs.declared.scalars.Scalar.{Scalar}
use Rattle.ir_kinds.specs.declared.scalars.ScalarKind.{ScalarKind}
use Rattle.ir_kinds.specs.declared.scalars.ScalarKind.TheVariants as kind
use Rattle.ir_kinds.specs.declared.scalars.VectorSize.{VectorSize}
use Rattle.ir_kinds.specs.declared.scalars.VectorSize.TheVariants.{Bi, Tri, Quad}
use Rattle.ir_kinds.specs.declared.scalars.CooperativeSize.{CooperativeSize}
use Rattle.ir_kinds.specs.declared.scalars.CooperativeSize.TheVariants.{Eight, Sixteen}
use Rattle.ir_kinds.specs.declared.scalars.SwizzleComponent.{SwizzleComponent}
use Rattle.ir_kinds.specs.declared.scalars.SwizzleComponent.TheVariants.{X, Y, Z, W}

-- ---- the twelve scalar types

abbrev pub signed : ℕ → Scalar
signed width = record { kind = kind.Sint; width = width }

abbrev pub unsigned : ℕ → Scalar
unsigned width = record { kind = kind.Uint; width = width }

abbrev pub floating : ℕ → Scalar
floating width = record { kind = kind.Float; width = width }

abbrev pub boolean : Scalar
boolean = record { kind = kind.Bool; width = 1 }

abbrev pub abstract_int : Scalar
abstract_int = record { kind = kind.AbstractInt; width = 8 }

abbrev pub abstract_float : Scalar
abstract_float = record { kind = kind.AbstractFloat; width = 8 }

-- ---- equality

abbrev pub kind_place : ScalarKind → ℕ
kind_place kind.Sint = 0
kind_place kind.Uint = 1
kind_place kind.Float = 2
kind_place kind.Bool = 3
kind_place kind.AbstractInt = 4
kind_place kind.AbstractFloat = 5

abbrev pub same_scalar : Scalar → Scalar → Bool
same_scalar a b = (kind_place a.kind == kind_place b.kind) && (a.width == b.width)

-- ---- vectors

-- the number of components of a vector of this size
abbrev pub component_count : VectorSize → ℕ
component_count n = elim n [ Bi ↦ 2 | Tri ↦ 3 | Quad ↦ 4 ]

-- the number of columns or rows of a cooperative matrix
abbrev pub cooperative_count : CooperativeSize → ℕ
cooperative_count o = elim o [ Eight ↦ 8 | Sixteen ↦ 16 ]

-- the index of a component in its vector
abbrev pub component_place : SwizzleComponent → ℕ
component_place letter = elim letter [ X ↦ 0 | Y ↦ 1 | Z ↦ 2 | W ↦ 3 ]
