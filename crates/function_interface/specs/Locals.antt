-- Errors of local variables.
use Rattle.std.specs.Prelude.{◌≡◌, ◌⊎◌, ℕ, IsSomeAnd, string_bytes}
use Rattle.typing_errors.specs.declared.error.FunctionError.{FunctionError}
use Rattle.typing_errors.specs.declared.error.FunctionError.TheVariants as error
use Rattle.typing_errors.specs.declared.locals.LocalVariableError.{LocalVariableError}
use Rattle.typing_errors.specs.declared.locals.LocalVariableError.TheVariants.{InvalidType, InitializerType, NonConstOrOverrideInitializer}
use Rattle.function_interface.specs.Items.{IsFirstAt}
use Rattle.function_interface.specs.Named.{name_of}
use Rattle.ir_items.specs.judged.Plain.{PlainLocal}
use Rattle.typing_layout.specs.judged.Flags.{HasFlag, Constructible}
use Rattle.spec_statements.specs.judged.BlockContext.{BlockContext, form_at}
use Rattle.spec_statements.specs.judged.Interfaces.{LocalOK}
use Rattle.typing_layout.specs.judged.View.{type_tree}
use Rattle.typing_forms.specs.judged.Forms.{form_of_type}
use Rattle.typing_layout.specs.judged.Constness.{IsOfKind}
use Rattle.typing_layout.specs.declared.constness.ExpressionKind.TheVariants.{Const, Override}

-- of the initializer: it has another type, or is a runtime expression
abbrev pub IsBeginError : BlockContext → (ty init : ℕ) → LocalVariableError → Type 0
IsBeginError c ty init (InvalidType other) = ⊥
IsBeginError c ty init InitializerType = ¬ (form_at c init ≡ form_of_type c.m.types ty)
IsBeginError c ty init NonConstOrOverrideInitializer = ¬ (IsOfKind c.f.expressions init Const ⊎ IsOfKind c.f.expressions init Override)

-- the type is not constructible, or the initializer is invalid
abbrev pub IsLocalError : BlockContext → PlainLocal → LocalVariableError → Type 0
IsLocalError c local (InvalidType ty) = (ty ≡ local.ty) × ¬ HasFlag Constructible (type_tree c.m.types local.ty)
IsLocalError c local InitializerType = IsSomeAnd local.init (λ init. IsBeginError c local.ty init InitializerType)
IsLocalError c local NonConstOrOverrideInitializer = IsSomeAnd local.init (λ init. IsBeginError c local.ty init NonConstOrOverrideInitializer)

-- it is the first invalid one
abbrev pub IsLocalsFault : BlockContext → FunctionError → Type 0
IsLocalsFault c (error.LocalVariable handle name source) = IsFirstAt (LocalOK c) (λ l. (string_bytes name ≡ name_of l.name) × IsLocalError c l source) c.f.locals handle
IsLocalsFault c _ = ⊥
