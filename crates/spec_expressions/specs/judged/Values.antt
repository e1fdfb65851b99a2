-- Non-uniform values, the global variables at the roots of access chains, and the uniformity requirements of
-- expressions.
use Rattle.std.specs.Prelude.{◌≡◌, ◌↔◌, ℕ, ◌<◌, Bool, true, false, ◌||◌, IsTrue, List, Option, Some, None, slice_get, bit_and, ◌==◌}
use Rattle.ir_flags.specs.declared.memory.StorageAccess.{StorageAccess}
use Rattle.ir_flags.specs.declared.memory.TheConstants.StorageAccess.{STORE}
use Rattle.ir_kinds.specs.declared.bindings.Binding.{Binding}
use Rattle.ir_kinds.specs.declared.bindings.Binding.TheVariants.{BuiltIn}
use Rattle.ir_kinds.specs.declared.bindings.BuiltIn.{BuiltIn as BuiltInValue}
use Rattle.ir_kinds.specs.declared.bindings.BuiltIn.TheVariants.{WorkGroupId, WorkGroupSize, NumWorkGroups}
use Rattle.ir_kinds.specs.declared.images.ImageClass.{ImageClass}
use Rattle.ir_kinds.specs.declared.images.ImageClass.TheVariants as class
use Rattle.ir_kinds.specs.declared.spaces.AddressSpace.{AddressSpace}
use Rattle.ir_kinds.specs.declared.spaces.AddressSpace.TheVariants as space
use Rattle.typing_layout.specs.IrTypes.{PlainInner, PlainType, plain as plain_inner, Image, PlainExpression, plain_expression as plain}
use Rattle.typing_layout.specs.IrTypes.x as x
use Rattle.ir_items.specs.judged.GlobalPlain.{PlainGlobal}
use Rattle.ir_items.specs.judged.Plain.{PlainArgument, PlainFunction, PlainModule}
use Rattle.spec_expressions.specs.judged.Kinds.{Variation, uniform, varying, as_argument, as_global, row_of_expression}
use Rattle.spec_expressions.specs.judged.OperandUses.{Operand, expression_uses}
use Rattle.typing_rules.specs.judged.Laws.{IsAmong}

-- ---- sources of non-uniformity

-- the memory is writable
abbrev pub may_store : StorageAccess → Bool
may_store access = bit_and access.0 STORE.0 == STORE.0

-- loads from this space are non-uniform, or change while the shader runs
abbrev pub space_varies : AddressSpace → Bool
space_varies space.Function = false
space_varies space.Private = true
space_varies space.WorkGroup = true
space_varies space.Uniform = false
space_varies (space.Storage access) = may_store access
space_varies space.Handle = false
space_varies space.Immediate = false
space_varies space.TaskPayload = true
space_varies space.RayPayload = true
space_varies space.IncomingRayPayload = true

-- images that can be stored to
abbrev pub class_varies : ImageClass → Bool
class_varies c =
    elim c [ class.Sampled kind multi ↦ false | class.Depth multi ↦ false | class.External ↦ false | class.Storage format access ↦ may_store access ]

-- a storage image that can be stored to; binding arrays of these don't count
abbrev pub inner_varies : PlainInner → Bool
inner_varies o = elim o [ plain_inner (Image dim arrayed class) ↦ class_varies class | _ ↦ false ]

abbrev pub type_varies : Option PlainType → Bool
type_varies o = elim o [ Some type ↦ inner_varies type.inner | None ↦ false ]

abbrev pub global_varies : List PlainType → Option PlainGlobal → Bool
global_varies types o = elim o [ Some global ↦ space_varies global.space || type_varies (slice_get types global.ty) | None ↦ false ]

-- the workgroup id, size and count are uniform within a workgroup
abbrev pub built_in_varies : BuiltInValue → Bool
built_in_varies WorkGroupId = false
built_in_varies WorkGroupSize = false
built_in_varies NumWorkGroups = false
built_in_varies _ = true

abbrev pub binding_varies : Option Binding → Bool
binding_varies o = elim o [ Some (BuiltIn value) ↦ built_in_varies value | _ ↦ true ]

abbrev pub argument_varies : Option PlainArgument → Bool
argument_varies o = elim o [ Some argument ↦ binding_varies argument.binding | None ↦ true ]

-- whether an expression of this kind is a source
abbrev pub may_vary : PlainModule → PlainFunction → Variation → Bool
may_vary m f uniform = false
may_vary m f varying = true
may_vary m f (as_argument number) = argument_varies (slice_get f.arguments number)
may_vary m f (as_global global) = global_varies m.types (slice_get m.globals global)

-- The expression is a source of non-uniformity, whatever its operands are.
abbrev pub is_source : PlainModule → PlainFunction → PlainExpression → Bool
is_source m f x = may_vary m f (row_of_expression x).variation

-- The value of e depends on the source s: it is that source, or has an operand whose value depends on it.
pub data ComesFrom (m : PlainModule) (f : PlainFunction) : ℕ → ℕ → Type 0 where
  itself : {s : ℕ} (expression : PlainExpression) → slice_get f.expressions s ≡ Some expression → IsTrue (is_source m f expression) → ComesFrom m f s s
  through : {e s : ℕ} (expression : PlainExpression) (operand : Operand) → slice_get f.expressions e ≡ Some expression
      → IsAmong operand (expression_uses expression) → ComesFrom m f operand.handle s → ComesFrom m f e s

-- the value of e may be non-uniform
abbrev pub NonUniform : PlainModule → PlainFunction → ℕ → Type 0
NonUniform m f e = (s : ℕ) × ComesFrom m f e s

-- ---- access chains

-- e is the global variable g, or an access chain on it
pub data StartsAt (expressions : List PlainExpression) : ℕ → ℕ → Type 0 where
  is_global : {e g : ℕ} → slice_get expressions e ≡ Some (plain (x.GlobalVariable g)) → StartsAt expressions e g
  accessed : {e g : ℕ} (base index : ℕ) → slice_get expressions e ≡ Some (plain (x.Access base index)) → StartsAt expressions base g → StartsAt expressions e g
  accessed_index : {e g : ℕ} (base index : ℕ) → slice_get expressions e ≡ Some (plain (x.AccessIndex base index)) → StartsAt expressions base g
      → StartsAt expressions e g

-- a fact about one of several expressions
abbrev pub inner_of : Option (Option ℕ) → Option ℕ
inner_of (Some found) = found
inner_of None = None

abbrev pub known_at : List (Option ℕ) → ℕ → Option ℕ
known_at known e = inner_of (slice_get known e)

-- these are the global variables at the roots of the access chains of all expressions
abbrev pub AreStarts : List PlainExpression → List (Option ℕ) → Type 0
AreStarts expressions globals = (e g : ℕ) → (known_at globals e ≡ Some g) ↔ StartsAt expressions e g

-- each operand precedes the expression that has it
abbrev pub UsesPrecede : List PlainExpression → Type 0
UsesPrecede expressions =
    (e : ℕ) (expression : PlainExpression) (operand : Operand) → slice_get expressions e ≡ Some expression → IsAmong operand (expression_uses expression)
    → operand.handle < e

-- an option is one of those that satisfy P, if there is one
pub record IsExact (answer : Option ℕ) (P : ℕ → Type 0) : Type 0 where
  pub found : (s : ℕ) → answer ≡ Some s → P s
  pub none : answer ≡ None → (s : ℕ) → P s → ⊥

-- ---- uniformity requirements

-- the bits of the uniformity requirements of an expression
abbrev pub requirements_of : PlainExpression → ℕ
requirements_of x = (row_of_expression x).requirement
