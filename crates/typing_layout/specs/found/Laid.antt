-- The alignment of a type, given those of the earlier types.
use Rattle.std.specs.Prelude.{◌≡◌, ℕ, List, Option, Some, None, IfSome, slice_get}
use Rattle.std.specs.Int.{IsPowerOfTwo}
use Rattle.typing_layout.specs.judged.Layout.{alignment, tree_scalar}
use Rattle.typing_layout.specs.judged.Tree.{Tree}
use Rattle.typing_layout.specs.declared.layout.TypeLayout.{TypeLayout}

-- the layouts have the alignments of the trees
pub record AreAligned (tree : ℕ → Tree) (layouts : List TypeLayout) : Type 0 where
  pub each : (handle : ℕ) (l : TypeLayout) → slice_get layouts handle ≡ Some l → l.alignment ≡ alignment (tree handle)

-- size and alignment depend on the scalar width, if there is a scalar
abbrev pub IsWidthOK : Tree → Type 0
IsWidthOK t = IfSome (tree_scalar t) (λ s. IsPowerOfTwo s.width)

-- the alignment of a type, or none if the scalar width it depends on is no alignment
abbrev pub IsAlignmentOf : Tree → Option ℕ → Type 0
IsAlignmentOf t (Some a) = IsWidthOK t × (a ≡ alignment t)
IsAlignmentOf t None = ¬ IsWidthOK t
