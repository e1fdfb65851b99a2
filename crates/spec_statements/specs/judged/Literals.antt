-- Types of zero values. The rule of literals is in `spec_expressions`.
use Rattle.std.specs.Prelude.{ℕ, List}
use Rattle.ir_types.specs.judged.Plain.{PlainType}
use Rattle.typing_layout.specs.judged.Flags.{HasFlag, Constructible}
use Rattle.typing_layout.specs.judged.View.{type_tree}

-- values of the type can be constructed
abbrev pub ZeroOK : List PlainType → (type : ℕ) → Type 0
ZeroOK types type = HasFlag Constructible (type_tree types type)
