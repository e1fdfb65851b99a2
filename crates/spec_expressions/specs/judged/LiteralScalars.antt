-- When a literal is valid.
use Rattle.ir_flags.specs.declared.settings.Capabilities.{Capabilities}
use Rattle.ir_kinds.specs.judged.Values.{literal_scalar}
use Rattle.ir_kinds.specs.declared.values.Literal.{Literal}
use Rattle.typing_layout.specs.judged.Widths.{ScalarOK}

-- a literal is valid if the capabilities allow its scalar
abbrev pub LiteralOK : Capabilities → Literal → Type 0
LiteralOK capabilities literal = ScalarOK capabilities (literal_scalar literal)
