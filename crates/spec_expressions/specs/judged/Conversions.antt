-- `As`: casts and bit casts.
use Rattle.std.specs.Prelude.{ℕ, Option, Result, Ok, Err, unwrap_or}
use Rattle.ir_kinds.specs.declared.scalars.Scalar.{Scalar}
use Rattle.ir_kinds.specs.declared.scalars.ScalarKind.{ScalarKind}
use Rattle.typing_layout.specs.TypingForms.{Form}
use Rattle.typing_layout.specs.TypingForms.form as form
use Rattle.spec_expressions.specs.declared.faults.TypingFault.{TypingFault}
use Rattle.spec_expressions.specs.declared.faults.TypingFault.TheVariants.{IncompatibleOperands}

-- the scalar of this kind, with the given width or else its own
abbrev pub converted : ScalarKind → (convert : Option ℕ) → Scalar → Scalar
converted kind convert s = record { kind = kind; width = unwrap_or convert s.width }

-- the same shape with the new scalar
abbrev pub as_type : ScalarKind → (convert : Option ℕ) → (of : Form) → Result Form TypingFault
as_type kind convert (form.Scalar s) = Ok (form.Scalar (converted kind convert s))
as_type kind convert (form.Vector n s) = Ok (form.Vector n (converted kind convert s))
as_type kind convert (form.Matrix columns rows s) = Ok (form.Matrix columns rows (converted kind convert s))
as_type kind convert _ = Err IncompatibleOperands
