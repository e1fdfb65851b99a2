-- Which constants are valid.
use Rattle.std.specs.Prelude.{◌≡◌, ℕ, Some, slice_get}
use Rattle.ir_items.specs.judged.GlobalPlain.{PlainConstant}
use Rattle.ir_items.specs.judged.Plain.{PlainModule}
use Rattle.spec_expressions.specs.judged.Typing.{HasGlobalType}
use Rattle.typing_layout.specs.judged.Flags.{HasFlag, Constructible}
use Rattle.typing_layout.specs.judged.View.{type_tree}
use Rattle.typing_layout.specs.TypingForms.{form_of_type}
use Rattle.typing_layout.specs.judged.Constness.{IsOfKind}
use Rattle.typing_layout.specs.declared.constness.ExpressionKind.TheVariants.{Const}

-- The constant at a handle: its initializer is const, and of its declared type, which can be
-- constructed.
pub record ConstantOK (m : PlainModule) (handle : ℕ) : Type 0 where
  pub constant : PlainConstant
  pub at : slice_get m.constants handle ≡ Some constant
  pub composed : HasFlag Constructible (type_tree m.types constant.ty)
  pub known : IsOfKind m.global_expressions constant.init Const
  pub typed : HasGlobalType m constant.init (form_of_type m.types constant.ty)
