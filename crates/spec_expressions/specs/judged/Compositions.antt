-- Compositions, splats and swizzles.
use Rattle.std.specs.Prelude.{ℕ, Result, Ok, Err}
use Rattle.ir_kinds.specs.declared.scalars.VectorSize.{VectorSize}
use Rattle.typing_layout.specs.TypingForms.{Form}
use Rattle.typing_layout.specs.TypingForms.form as form
use Rattle.spec_expressions.specs.declared.faults.TypingFault.{TypingFault}
use Rattle.spec_expressions.specs.declared.faults.TypingFault.TheVariants.{InvalidScalar, InvalidVector}

-- a splat over a vector of this size; value is the scalar's expression
abbrev pub splat_type : VectorSize → (value : ℕ) → (of : Form) → Result Form TypingFault
splat_type size value of = elim of [ form.Scalar s ↦ Ok (form.Vector size s) | _ ↦ Err (InvalidScalar value) ]

-- a swizzle with this many components; vector is the vector's expression
abbrev pub swizzle_type : VectorSize → (vector : ℕ) → (of : Form) → Result Form TypingFault
swizzle_type size vector of = elim of [ form.Vector n s ↦ Ok (form.Vector size s) | _ ↦ Err (InvalidVector vector) ]
