-- The guarantee on a decoder's result.
use Rattle.std.specs.Prelude.{◌≢◌, Option, Some, None, Result, Ok, Err}
use Rattle.document_forms.specs.declared.error.ReadError.{ReadError}
use Rattle.document_forms.specs.declared.error.ReadError.TheVariants.{Memory}

-- P of the item on success, or of `None` on an error other than out of memory
abbrev pub Answers : {T : Type 0} → Result T ReadError → (Option T → Type 0) → Type 0
Answers (Ok x) P = P (Some x)
Answers (Err e) P = e ≢ Memory → P None
