-- Pointer base types.
use Rattle.std.specs.Prelude.{ℕ, Option, Some, None}
use Rattle.spec_expressions.specs.TypingForms.{Form}
use Rattle.spec_expressions.specs.TypingForms.form as form

-- the base type of a pointer
abbrev pub pointee_of : Form → Option ℕ
pointee_of (form.Pointer base space) = Some base
pointee_of _ = None
