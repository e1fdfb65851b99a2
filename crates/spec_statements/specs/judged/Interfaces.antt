-- The variables, arguments and result of a function.
use Rattle.std.specs.Prelude.{◌≡◌, ◌⊎◌, ℕ, Some, None, Bool, false, IfSome, slice_get}
use Rattle.spec_expressions.specs.IrItems.{PlainArgument, PlainLocal, PlainModule, FunctionResult}
use Rattle.ir_kinds.specs.declared.spaces.AddressSpace.{AddressSpace}
use Rattle.ir_kinds.specs.declared.spaces.AddressSpace.TheVariants as space
use Rattle.typing_layout.specs.judged.Flags.{HasFlag, Argument, Constructible}
use Rattle.typing_layout.specs.judged.View.{type_tree}
use Rattle.typing_layout.specs.judged.Constness.{IsOfKind}
use Rattle.typing_layout.specs.declared.constness.ExpressionKind.TheVariants.{Const, Override}
use Rattle.spec_expressions.specs.TypingForms.{form_of_type}
use Rattle.spec_statements.specs.judged.BlockContext.{BlockContext, form_at}
use Rattle.spec_statements.specs.judged.Stores.{pointer_space}

-- ---- local variables

-- A variable's initializer is of its type, and const or override.
pub record BeginsAs (c : BlockContext) (ty init : ℕ) : Type 0 where
  pub fits : form_at c init ≡ form_of_type c.m.types ty
  pub known : IsOfKind c.f.expressions init Const ⊎ IsOfKind c.f.expressions init Override

pub record LocalOK (c : BlockContext) (local : PlainLocal) : Type 0 where
  pub constructible : HasFlag Constructible (type_tree c.m.types local.ty)
  pub begins : IfSome local.init (BeginsAs c local.ty)

-- ---- arguments

-- arguments may only be pointers into the function and private spaces
abbrev pub IsGiven : AddressSpace → Type 0
IsGiven s = elim s [ space.Function ↦ Unit {0} | space.Private ↦ Unit {0} | _ ↦ ⊥ ]

-- entry: the function is an entry point's; no other function has bindings
pub record ArgumentOK (m : PlainModule) (entry : Bool) (a : PlainArgument) : Type 0 where
  pub space : IfSome (pointer_space (form_of_type m.types a.ty)) IsGiven
  pub argument : HasFlag Argument (type_tree m.types a.ty)
  pub unbound : entry ≡ false → a.binding ≡ None

-- ---- results

pub record ResultOK (m : PlainModule) (entry : Bool) (r : FunctionResult) : Type 0 where
  pub constructible : HasFlag Constructible (type_tree m.types r.ty)
  pub unbound : entry ≡ false → r.binding ≡ None

-- The local variables, the arguments and the result of a function are valid.
pub record InterfaceOK (c : BlockContext) (entry : Bool) : Type 0 where
  pub locals : (i : ℕ) (local : PlainLocal) → slice_get c.f.locals i ≡ Some local → LocalOK c local
  pub arguments : (i : ℕ) (a : PlainArgument) → slice_get c.f.arguments i ≡ Some a → ArgumentOK c.m entry a
  pub result : IfSome c.f.result (ResultOK c.m entry)
