-- Cooperative matrices.
use Rattle.std.specs.Prelude.{ℕ, List, Option, Some, None, Result, option_map, option_and_then, ok_or}
use Rattle.ir_kinds.specs.declared.scalars.CooperativeRole.{CooperativeRole}
use Rattle.ir_kinds.specs.declared.scalars.CooperativeSize.{CooperativeSize}
use Rattle.ir_kinds.specs.declared.scalars.Scalar.{Scalar}
use Rattle.typing_layout.specs.IrTypes.{PlainType}
use Rattle.typing_layout.specs.TypingForms.{Form, inner_at, scalar_of}
use Rattle.typing_layout.specs.TypingForms.form as form
use Rattle.spec_expressions.specs.declared.faults.TypingFault.{TypingFault}
use Rattle.spec_expressions.specs.declared.faults.TypingFault.TheVariants.{InvalidPointer}

-- the scalar of the scalar, vector or matrix that a pointer points to
abbrev pub pointed_scalar : List PlainType → Form → Option Scalar
pointed_scalar types (form.Pointer base space) = option_and_then scalar_of (inner_at types base)
pointed_scalar types (form.ValuePointer n s space) = Some s
pointed_scalar types _ = None

-- a cooperative matrix of the scalars that a pointer points to; pointer is the pointer's expression
abbrev pub cooperative_load_type : List PlainType → CooperativeSize → CooperativeSize → CooperativeRole → (pointer : ℕ) → (of : Form) → Result Form TypingFault
cooperative_load_type types columns rows role pointer of =
    ok_or (option_map (λ s. form.CooperativeMatrix columns rows s role) (pointed_scalar types of)) (InvalidPointer pointer)
