-- The errors of constants.
use Rattle.std.specs.Prelude.{◌≡◌, ◌≢◌, ℕ, Some, slice_get}
use Rattle.module_constants.specs.declared.constant_error.ConstantError.{ConstantError}
use Rattle.module_constants.specs.declared.constant_error.ConstantError.TheVariants as error
use Rattle.ir_items.specs.judged.GlobalPlain.{PlainConstant}
use Rattle.ir_items.specs.judged.Plain.{PlainModule}
use Rattle.spec_expressions.specs.judged.Typing.{HasGlobalType}
use Rattle.typing_layout.specs.judged.Flags.{HasFlag, Constructible}
use Rattle.typing_layout.specs.judged.View.{type_tree}
use Rattle.typing_forms.specs.judged.Forms.{form_of_type}
use Rattle.typing_layout.specs.judged.Constness.{IsOfKind}
use Rattle.typing_forms.specs.declared.form.Form.{Form}
use Rattle.typing_layout.specs.declared.constness.ExpressionKind.{ExpressionKind}
use Rattle.typing_layout.specs.declared.constness.ExpressionKind.TheVariants.{Const}

abbrev pub IsFaultOf : PlainModule → PlainConstant → ConstantError → Type 0
IsFaultOf m constant error.InitializerExprType = (k : ExpressionKind) × IsOfKind m.global_expressions constant.init k × (k ≢ Const)
IsFaultOf m constant error.InvalidType = (t : Form) × HasGlobalType m constant.init t × (t ≢ form_of_type m.types constant.ty)
IsFaultOf m constant error.NonConstructibleType = ¬ HasFlag Constructible (type_tree m.types constant.ty)

-- the constant at a handle has this error
pub record IsConstantFault (m : PlainModule) (handle : ℕ) (e : ConstantError) : Type 0 where
  pub constant : PlainConstant
  pub at : slice_get m.constants handle ≡ Some constant
  pub fault : IsFaultOf m constant e
