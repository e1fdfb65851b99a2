-- Cooperative loads and multiply-adds.
use Rattle.std.specs.Prelude.{◌≡◌, IsSomeAnd}
use Rattle.ir_kinds.specs.judged.Scalars.{unsigned}
use Rattle.ir_kinds.specs.declared.scalars.CooperativeRole.TheVariants.{A, B, C}
use Rattle.ir_kinds.specs.declared.scalars.CooperativeSize.{CooperativeSize}
use Rattle.spec_expressions.specs.TypingForms.{Form}
use Rattle.spec_expressions.specs.TypingForms.form as form
use Rattle.spec_statements.specs.judged.Shapes.{shaped_of}
use Rattle.spec_statements.specs.declared.shapes.Shape.{Shape}
use Rattle.spec_statements.specs.declared.shapes.Shape.TheVariants as shape

-- the stride is a 32-bit unsigned integer
abbrev pub CooperativeLoadOK : (stride : Form) → Type 0
CooperativeLoadOK stride = stride ≡ form.Scalar (unsigned 4)

-- an addend of role C with this many columns and rows
abbrev pub IsAddend : (columns rows : CooperativeSize) → Shape → Type 0
IsAddend columns rows (shape.CooperativeMatrix more lines role) = (role ≡ C) × (more ≡ columns) × (lines ≡ rows)
IsAddend columns rows _ = ⊥

-- a right factor of role B for a left one with this many columns and rows, and the addend
abbrev pub IsRightFactor : (columns rows : CooperativeSize) → (right third : Shape) → Type 0
IsRightFactor columns rows (shape.CooperativeMatrix more lines role) third = (role ≡ B) × (columns ≡ lines) × IsAddend more rows third
IsRightFactor columns rows _ third = ⊥

-- a left factor of role A, a right factor of role B and an addend: the left one's columns match the right one's rows, the addend
-- has the rows of the left one and the columns of the right one
abbrev pub AreFactors : (left right third : Shape) → Type 0
AreFactors (shape.CooperativeMatrix columns rows role) right third = (role ≡ A) × IsRightFactor columns rows right third
AreFactors _ right third = ⊥

-- the factors have the same scalar; the addend's scalar is not checked
abbrev pub MultiplyAddOK : (a b c : Form) → Type 0
MultiplyAddOK a b c =
    IsSomeAnd (shaped_of a) (λ x. IsSomeAnd (shaped_of b) (λ y. IsSomeAnd (shaped_of c) (λ z. (x.scalar ≡ y.scalar) × AreFactors x.shape y.shape z.shape)))
