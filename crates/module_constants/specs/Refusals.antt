-- The errors of constants, global expressions and overrides.
use Rattle.std.specs.Prelude.{◌≡◌, ◌≢◌, ◌⊎◌, ℕ, [], Option, Some, None, Bool, true, IsSome}
use Rattle.module_constants.specs.Constants.{IsConstantFault}
use Rattle.module_constants.specs.Expressions.{IsConstExpressionFault}
use Rattle.module_constants.specs.Overrides.{IsOverrideFault}
use Rattle.module_constants.specs.declared.constant_error.ConstantError.{ConstantError}
use Rattle.module_constants.specs.declared.override_error.OverrideError.{OverrideError}
use Rattle.module_constants.specs.declared.override_error.OverrideError.TheVariants as error
use Rattle.typing_errors.specs.declared.const_expressions.ConstExpressionError.{ConstExpressionError}
use Rattle.ir_types.specs.found.Faults.{error_of, spans_of}
use Rattle.ir_types.specs.declared.refusal.Refusal.{Refusal}
use Rattle.ir_types.specs.declared.refusal.Refusal.TheVariants as refusal
use Rattle.ir_flags.specs.declared.settings.Capabilities.{Capabilities}
use Rattle.ir_items.specs.judged.GlobalPlain.{PlainConstant, PlainOverride}
use Rattle.ir_items.specs.judged.Plain.{PlainModule}
use Rattle.spec_expressions.specs.judged.Constants.{ConstantOK}
use Rattle.spec_expressions.specs.judged.GlobalExpressions.{GlobalExpressionOK}
use Rattle.spec_expressions.specs.judged.Overrides.{IsOverrideType, DefaultOK, OverrideOK}
use Rattle.spec_expressions.specs.judged.Typing.{HasGlobalType}
use Rattle.typing_layout.specs.judged.Flags.{HasFlag, Constructible}
use Rattle.typing_layout.specs.judged.View.{type_tree}
use Rattle.typing_forms.specs.judged.Forms.{form_of_type}
use Rattle.typing_forms.specs.declared.form.Form.{Form}
use Rattle.typing_layout.specs.judged.Constness.{IsOfKind}
use Rattle.typing_layout.specs.declared.constness.ExpressionKind.TheVariants.{Const, Runtime}

-- a constant is valid
pub record IsFineConstant (m : PlainModule) (c : PlainConstant) : Type 0 where
  pub composed : HasFlag Constructible (type_tree m.types c.ty)
  pub known : IsOfKind m.global_expressions c.init Const
  pub typed : HasGlobalType m c.init (form_of_type m.types c.ty)

-- an error of a constant, which implies that it is invalid
pub record IsConstantRefused (m : PlainModule) (handle : ℕ) (e : ConstantError) : Type 0 where
  pub fault : IsConstantFault m handle e
  pub not : ¬ ConstantOK m handle

-- an error of a global expression, which implies that it is invalid
pub record IsExpressionRefused (capabilities : Capabilities) (resolved : Bool) (m : PlainModule) (handle : ℕ) (e : ConstExpressionError) : Type 0 where
  pub fault : IsConstExpressionFault capabilities resolved m handle e
  pub not : ¬ GlobalExpressionOK capabilities resolved m handle

-- the initializer of an override is invalid
abbrev pub IsDefaultFault : (resolved : Bool) → PlainModule → (type : ℕ) → Option ℕ → OverrideError → Type 0
IsDefaultFault resolved m type None error.UninitializedOverride = resolved ≡ true
IsDefaultFault resolved m type None _ = ⊥
IsDefaultFault resolved m type (Some init) error.InitializerExprType = IsOfKind m.global_expressions init Runtime
IsDefaultFault resolved m type (Some init) error.InvalidType = (t : Form) × HasGlobalType m init t × (t ≢ form_of_type m.types type)
IsDefaultFault resolved m type (Some init) _ = ⊥

-- an override is valid, its id aside
pub record IsFineBesideId (resolved : Bool) (m : PlainModule) (o : PlainOverride) : Type 0 where
  pub named : IsSome o.name ⊎ IsSome o.id
  pub scalar : IsOverrideType m.types o.ty
  pub default : DefaultOK resolved m o.ty o.init

-- the error of an override, which implies that it is invalid, or out of memory
pub record IsOverrideRefused (resolved : Bool) (m : PlainModule) (handle : ℕ) (e : OverrideError) : Type 0 where
  pub fault : IsOverrideFault resolved m handle e
  pub not : ¬ OverrideOK resolved m handle

abbrev pub IsOverrideRefusal : (resolved : Bool) → PlainModule → (handle : ℕ) → Refusal OverrideError → Type 0
IsOverrideRefusal resolved m handle (refusal.Memory e) = Unit {0}
IsOverrideRefusal resolved m handle (refusal.Fault f) = IsOverrideRefused resolved m handle (error_of f) × (spans_of f ≡ [])
