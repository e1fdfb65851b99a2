-- Types of immediate data.
use Rattle.std.specs.Prelude.{◌≢◌, IfSome}
use Rattle.typing_layout.specs.judged.Tree.{Tree}
use Rattle.typing_layout.specs.judged.Layout.{tree_scalar}
use Rattle.typing_layout.specs.judged.Parts.{Everywhere}

-- the type contains no two-byte scalar
abbrev pub FitsImmediates : Tree → Type 0
FitsImmediates t = Everywhere (λ inside. IfSome (tree_scalar inside) (λ s. s.width ≢ 2)) t
