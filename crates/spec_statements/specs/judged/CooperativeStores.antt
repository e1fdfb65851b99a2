-- Cooperative stores.
use Rattle.std.specs.Prelude.{◌≡◌, ℕ, Option, Some, None}
use Rattle.ir_types.specs.declared.expressions.CooperativeData.{CooperativeData}
use Rattle.ir_kinds.specs.declared.scalars.Scalar.{Scalar}
use Rattle.spec_expressions.specs.TypingForms.{Form}
use Rattle.spec_expressions.specs.TypingForms.form as form
use Rattle.spec_expressions.specs.judged.CooperativeMatrices.{pointed_scalar}
use Rattle.spec_statements.specs.judged.BlockContext.{BlockContext, form_at}
use Rattle.spec_statements.specs.judged.Stores.{IsWritable}

-- the component type of a cooperative matrix
abbrev pub matrix_scalar : Form → Option Scalar
matrix_scalar t = elim t [ form.CooperativeMatrix columns rows s role ↦ Some s | _ ↦ None ]

-- The pointer points to the matrix's scalar in writable memory; the stride has any type.
pub record CooperativeStoreOK (c : BlockContext) (target : ℕ) (place : CooperativeData) : Type 0 where
  pub scalar : Scalar
  pub matrix : matrix_scalar (form_at c target) ≡ Some scalar
  pub fits : pointed_scalar c.m.types (form_at c place.pointer) ≡ Some scalar
  pub writable : IsWritable (form_at c place.pointer)
