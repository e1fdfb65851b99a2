-- An item with an error is rejected.
use Rattle.std.specs.Prelude.{ℕ, List, Bool}
use Rattle.module_constants.specs.Compositions.{IsComposeFault}
use Rattle.module_constants.specs.Constants.{IsConstantFault}
use Rattle.module_constants.specs.Expressions.{IsComponentsFault, IsConstExpressionFault}
use Rattle.module_constants.specs.Overrides.{IsOverrideFault}
use Rattle.module_constants.specs.declared.constant_error.ConstantError.{ConstantError}
use Rattle.module_constants.specs.declared.override_error.OverrideError.{OverrideError}
use Rattle.typing_errors.specs.declared.compose.ComposeError.{ComposeError}
use Rattle.typing_errors.specs.declared.const_expressions.ConstExpressionError.{ConstExpressionError}
use Rattle.ir_types.specs.judged.ExpressionPlain.{PlainExpression}
use Rattle.ir_flags.specs.declared.settings.Capabilities.{Capabilities}
use Rattle.ir_items.specs.judged.Plain.{PlainModule}
use Rattle.ir_kinds.specs.declared.values.Literal.{Literal}
use Rattle.ir_types.specs.judged.Plain.{PlainType}
use Rattle.spec_expressions.specs.judged.Compose.{ComposeOK, ComponentsOK}
use Rattle.spec_expressions.specs.judged.Constants.{ConstantOK}
use Rattle.spec_expressions.specs.judged.GlobalExpressions.{GlobalExpressionOK}
use Rattle.spec_expressions.specs.judged.LiteralScalars.{LiteralOK}
use Rattle.spec_expressions.specs.judged.Overrides.{OverrideOK}
use Rattle.spec_expressions.specs.judged.Context.{Context}
use Rattle.module_type_checks.specs.Widths.{IsLiteralFault}
use Rattle.typing_layout.specs.declared.type_error.LiteralError.{LiteralError}
use Rattle.typing_forms.specs.declared.form.Form.{Form}

abbrev pub LiteralRefuted : Type 0
LiteralRefuted = (capabilities : Capabilities) (value : Literal) (e : LiteralError) → IsLiteralFault capabilities value e → ¬ LiteralOK capabilities value

abbrev pub CompositionRefuted : Type 0
CompositionRefuted = (types : List PlainType) (type : ℕ) (forms : List Form) (e : ComposeError) → IsComposeFault types type forms e → ¬ ComposeOK types type forms

abbrev pub ComponentsRefuted : Type 0
ComponentsRefuted = (context : Context) (expressions : List PlainExpression) (type : ℕ) (components : List ℕ) (e : ComposeError)
    → IsComponentsFault context expressions type components e → ¬ ComponentsOK context expressions type components

abbrev pub ExpressionRefuted : Type 0
ExpressionRefuted = (capabilities : Capabilities) (resolved : Bool) (m : PlainModule) (handle : ℕ) (e : ConstExpressionError)
    → IsConstExpressionFault capabilities resolved m handle e → ¬ GlobalExpressionOK capabilities resolved m handle

abbrev pub ConstantRefuted : Type 0
ConstantRefuted = (m : PlainModule) (handle : ℕ) (e : ConstantError) → IsConstantFault m handle e → ¬ ConstantOK m handle

abbrev pub OverrideRefuted : Type 0
OverrideRefuted = (resolved : Bool) (m : PlainModule) (handle : ℕ) (e : OverrideError) → IsOverrideFault resolved m handle e → ¬ OverrideOK resolved m handle
