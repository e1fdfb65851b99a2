-- The laws of a layer, for the type inference and the checks of this repository.
use Rattle.std.proofs.Common.{◌≡◌, ◌<◌, ℕ, List, Some, length, slice_get, sym, ap, subst, ◌∙◌}
use Rattle.typing_errors.specs.declared.expressions.ExpressionError.{ExpressionError}
use Rattle.module_expressions.proofs.Refuted.{expression_refuted}
use Rattle.module_expressions.specs.Faults.{IsExpressionFault}
use Rattle.function_whole.specs.FunctionInterface.{Question}
use Rattle.ir_items.specs.judged.GlobalPlain.{PlainGlobal}
use Rattle.ir_items.specs.judged.Plain.{PlainModule}
use Rattle.ir_types.specs.judged.ExpressionPlain.{PlainExpression}
use Rattle.ir_flags.specs.declared.settings.Capabilities.{Capabilities}
use Rattle.ir_flags.specs.declared.stages.ShaderStages.{ShaderStages}
use Rattle.spec_statements.specs.judged.Expressions.{ExpressionOK}
use Rattle.spec_statements.specs.judged.Scene.{scene_of}
use Rattle.spec_statements.specs.judged.ExpressionStages.{IsRunBy, stages_of}
use Rattle.spec_expressions.proofs.TypingLaws.{one_type}
use Rattle.spec_expressions.specs.judged.Context.{inside, outside}
use Rattle.spec_expressions.specs.judged.Typing.{HasGlobalType, HasType}
use Rattle.spec_expressions.specs.judged.ModuleHandles.{HandlesOK}
use Rattle.spec_expressions.specs.judged.ModuleReferences as part
use Rattle.spec_expressions.specs.judged.References.{operand}
use Rattle.typing_forms.specs.declared.form.Form.{Form}
use Rattle.typing_forms.specs.declared.resolution.TypeResolution.{TypeResolution}

pub one_form_by : (q : Question) (e : ℕ) (s t : Form) → HasType q.m q.f e s → HasType q.m q.f e t → s ≡ t
one_form_by q e s t a b = one_type (inside q.m q.f) q.f.expressions e s t a b

pub one_global_form_by : (m : PlainModule) (e : ℕ) (s t : Form) → HasGlobalType m e s → HasGlobalType m e t → s ≡ t
one_global_form_by m e s t a b = one_type (outside m) m.global_expressions e s t a b

pub initializer_typed_by : (m : PlainModule) (types : List TypeResolution) → HandlesOK m → length types ≡ length m.global_expressions → (g : ℕ) (v : PlainGlobal) (e : ℕ)
    → slice_get m.globals g ≡ Some v → v.init ≡ Some e → e < length types
initializer_typed_by m types ok len g v e at is = subst (λ n. e < n) (sym len) (ok.there (part.variable g) (operand e) (part.variable_value at is))

pub one_run_by : (q : Question) (e : ℕ) (s t : ShaderStages) → IsRunBy q.stages q.f.expressions e s → IsRunBy q.stages q.f.expressions e t → s ≡ t
one_run_by q e s t a b =
    let same : a.expression ≡ b.expression = (let x = sym a.at ∙ b.at in cc) in
    a.run_by ∙ ap (λ (x : PlainExpression). stages_of q.stages x) same ∙ sym b.run_by

pub expression_refuted_by : (q : Question) (capabilities : Capabilities) (forms : List Form) (e : ℕ) (x : ExpressionError)
    → IsExpressionFault (scene_of capabilities q.m q.f forms) e x → ExpressionOK (scene_of capabilities q.m q.f forms) e → ⊥
expression_refuted_by q capabilities forms e x fault ok = expression_refuted (scene_of capabilities q.m q.f forms) e x fault ok
