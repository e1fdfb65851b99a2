-- The errors of overrides.
use Rattle.std.specs.Prelude.{◌≡◌, ◌≢◌, ℕ, Some, None, Bool, true, slice_get}
use Rattle.module_constants.specs.declared.override_error.OverrideError.{OverrideError}
use Rattle.module_constants.specs.declared.override_error.OverrideError.TheVariants as error
use Rattle.ir_items.specs.judged.GlobalPlain.{PlainOverride}
use Rattle.ir_items.specs.judged.Plain.{PlainModule}
use Rattle.spec_expressions.specs.judged.Overrides.{IsOverrideType, IsTaken}
use Rattle.spec_expressions.specs.judged.Typing.{HasGlobalType}
use Rattle.typing_layout.specs.judged.Flags.{HasFlag, Constructible}
use Rattle.typing_layout.specs.judged.View.{type_tree}
use Rattle.typing_forms.specs.judged.Forms.{form_of_type}
use Rattle.typing_forms.specs.declared.form.Form.{Form}
use Rattle.typing_layout.specs.judged.Constness.{IsOfKind}
use Rattle.typing_layout.specs.declared.constness.ExpressionKind.TheVariants.{Runtime}

abbrev pub IsFaultOf : (resolved : Bool) → PlainModule → (handle : ℕ) → PlainOverride → OverrideError → Type 0
IsFaultOf resolved m handle override error.MissingNameAndID = (override.name ≡ None) × (override.id ≡ None)
IsFaultOf resolved m handle override error.DuplicateID = (id : ℕ) × (override.id ≡ Some id) × IsTaken m.overrides handle id
IsFaultOf resolved m handle override error.InitializerExprType = (init : ℕ) × (override.init ≡ Some init) × IsOfKind m.global_expressions init Runtime
IsFaultOf resolved m handle override error.InvalidType = (init : ℕ) × (override.init ≡ Some init) × (t : Form) × HasGlobalType m init t × (t ≢ form_of_type m.types override.ty)
IsFaultOf resolved m handle override error.NonConstructibleType = ¬ HasFlag Constructible (type_tree m.types override.ty)
IsFaultOf resolved m handle override error.TypeNotScalar = ¬ IsOverrideType m.types override.ty
IsFaultOf resolved m handle override error.UninitializedOverride = (resolved ≡ true) × (override.init ≡ None)

-- the override at a handle has this error
pub record IsOverrideFault (resolved : Bool) (m : PlainModule) (handle : ℕ) (e : OverrideError) : Type 0 where
  pub override : PlainOverride
  pub at : slice_get m.overrides handle ≡ Some override
  pub fault : IsFaultOf resolved m handle override e
