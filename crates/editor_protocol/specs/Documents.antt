-- The stored documents.
use Rattle.std.specs.Prelude.{◌≤◌, vec_len}
use Rattle.editor_protocol.specs.declared.document.TheConstants.{MAX_TEXT}
use Rattle.editor_protocol.specs.declared.document.Text.{Text}
use Rattle.editor_protocol.specs.declared.document.Text.TheVariants.{Known, TooLong}

-- a stored text is not too long
abbrev pub IsWithin : Text → Type 0
IsWithin (Known bytes) = vec_len bytes ≤ MAX_TEXT
IsWithin TooLong = Unit {0}
