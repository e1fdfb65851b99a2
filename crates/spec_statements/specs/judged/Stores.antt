-- Stores.
use Rattle.std.specs.Prelude.{◌≡◌, ℕ, List, Option, Some, None, IsSomeAnd, option_and_then, slice_get}
use Rattle.ir_types.specs.judged.ExpressionPlain.{PlainExpression, plain}
use Rattle.ir_types.specs.declared.expressions.Expression.TheVariants as x
use Rattle.ir_flags.specs.Sets.{Has}
use Rattle.ir_flags.specs.declared.memory.TheConstants.StorageAccess.{STORE}
use Rattle.ir_kinds.specs.judged.Spaces.{access_of}
use Rattle.ir_kinds.specs.declared.spaces.AddressSpace.{AddressSpace}
use Rattle.ir_types.specs.judged.Plain.{PlainType}
use Rattle.spec_expressions.specs.IrItems.{base_of}
use Rattle.spec_expressions.specs.TypingForms.{Form, inner_at}
use Rattle.spec_expressions.specs.TypingForms.form as form
use Rattle.spec_expressions.specs.judged.Loads.{loaded, loaded_value}
use Rattle.spec_statements.specs.judged.BlockContext.{BlockContext, form_at}

-- ---- the pointer

-- the base of the access, if the expression is one
abbrev pub base_at : List PlainExpression → ℕ → Option ℕ
base_at expressions e = option_and_then base_of (slice_get expressions e)

-- the root of an access chain is no access
pub data BeginsAt (expressions : List PlainExpression) : ℕ → ℕ → Type 0 where
  itself : {e : ℕ} → base_at expressions e ≡ None → BeginsAt expressions e e
  through : {e base start : ℕ} → base_at expressions e ≡ Some base → BeginsAt expressions base start → BeginsAt expressions e start

-- local variables, global variables and arguments
abbrev pub IsVariableOf : PlainExpression → Type 0
IsVariableOf (plain (x.FunctionArgument number)) = Unit {0}
IsVariableOf (plain (x.GlobalVariable variable)) = Unit {0}
IsVariableOf (plain (x.LocalVariable variable)) = Unit {0}
IsVariableOf _ = ⊥

abbrev pub IsVariableAt : List PlainExpression → ℕ → Type 0
IsVariableAt expressions e = IsSomeAnd (slice_get expressions e) IsVariableOf

-- the address space of a pointer
abbrev pub pointer_space : Form → Option AddressSpace
pointer_space t = elim t [ form.Pointer base space ↦ Some space | form.ValuePointer n s space ↦ Some space | _ ↦ None ]

-- it is a pointer into writable memory
abbrev pub IsWritable : (pointer : Form) → Type 0
IsWritable pointer = IsSomeAnd (pointer_space pointer) (λ space. Has (access_of space).0 STORE.0)

-- ---- the value

-- images and samplers can't be stored
abbrev pub IsStorable : (value : Form) → Type 0
IsStorable (form.Image dim arrayed class) = ⊥
IsStorable (form.Sampler comparison) = ⊥
IsStorable (form.Scalar s) = Unit {0}
IsStorable (form.Vector n s) = Unit {0}
IsStorable (form.Matrix columns rows s) = Unit {0}
IsStorable (form.CooperativeMatrix columns rows s role) = Unit {0}
IsStorable (form.Atomic s) = Unit {0}
IsStorable (form.Pointer base space) = Unit {0}
IsStorable (form.ValuePointer n s space) = Unit {0}
IsStorable (form.Array base size stride) = Unit {0}
IsStorable (form.Struct handle) = Unit {0}
IsStorable (form.AccelerationStructure vertex_return) = Unit {0}
IsStorable (form.RayQuery vertex_return) = Unit {0}
IsStorable (form.BindingArray base size) = Unit {0}
IsStorable form.Nothing = Unit {0}

-- the value has the type that a load would have: the scalar of an atomic, because the IR stores scalars to atomics, and otherwise
-- the base type
abbrev pub FitsAt : List PlainType → (pointer value : Form) → Type 0
FitsAt types (form.Pointer base space) value = value ≡ loaded types base (inner_at types base)
FitsAt types (form.ValuePointer n s space) value = value ≡ loaded_value n s
FitsAt types _ value = ⊥

-- A valid store: the value fits, and the memory is writable.
pub record StoreOK (c : BlockContext) (pointer value : ℕ) : Type 0 where
  pub place : (start : ℕ) × BeginsAt c.f.expressions pointer start × IsVariableAt c.f.expressions start
  pub storable : IsStorable (form_at c value)
  pub fits : FitsAt c.m.types (form_at c pointer) (form_at c value)
  pub writable : IsWritable (form_at c pointer)
