-- The laws of a layer, for this one.
use Rattle.std.specs.Prelude.{◌≡◌, ℕ, IsTrue, List, [], Some}
use Rattle.typing_errors.specs.declared.expressions.ExpressionError.{ExpressionError}
use Rattle.typing_errors.specs.declared.error.FunctionError.{FunctionError}
use Rattle.function_interface.specs.Question.{Question}
use Rattle.ir_flags.specs.declared.stages.ShaderStages.{ShaderStages}
use Rattle.ir_items.specs.judged.GlobalPlain.{PlainGlobal}
use Rattle.ir_items.specs.judged.Plain.{PlainFunction, PlainModule}
use Rattle.std.proofs.Common.{slice_get, refl, sym, ap, ◌∙◌, true≢false}
use Rattle.std.proofs.lemmas.Option.{same_Some}
use Rattle.function_tiny_lower.specs.Readings.{IsGiven, IsRunBy, IsTypeFault, untyped, IsUnfit, fits_at}
use Rattle.function_tiny_lower.specs.Typing.{HasForm, IsUntyped}
use Rattle.typing_forms.specs.declared.form.Form.{Form}
use Rattle.typing_forms.specs.declared.resolution.TypeResolution.{TypeResolution}
use Rattle.typing_errors.specs.Answers.{form_given}

pub one_form_by : (q : Question) (e : ℕ) (s t : Form) → HasForm q.m q.f e s → HasForm q.m q.f e t → s ≡ t
one_form_by q e s t a b = same_Some _ _ (sym a ∙ b)

pub one_run_by : (q : Question) (e : ℕ) (s t : ShaderStages) → IsRunBy q.stages q.f e s → IsRunBy q.stages q.f e t → s ≡ t
one_run_by q e s t a b = same_Some _ _ (sym a ∙ b)

pub fault_refutes_by : (m : PlainModule) (f : PlainFunction) (e : FunctionError) → IsTypeFault m f e → ((k : ℕ) → IsUntyped m f k → ⊥) → ⊥
fault_refutes_by m f _ (untyped {e = k} none) typed = typed k none

pub unfit_refutes_by : (f : PlainFunction) (forms : List Form) (e : ℕ) (x : ExpressionError) → IsUnfit f forms e x → IsTrue (fits_at forms f e) → ⊥
unfit_refutes_by f forms e x unfit ok = true≢false (sym ok ∙ unfit.1)

pub given_by : (m : PlainModule) (types : List TypeResolution) (e : ℕ) (r : TypeResolution) → slice_get types e ≡ Some r → IsGiven m types e (form_given m.types r)
given_by m types e r at = record { type = r; given = at; form = refl }

pub one_global_form_by : (m : PlainModule) (types : List TypeResolution) (e : ℕ) (s t : Form) → IsGiven m types e s → IsGiven m types e t → s ≡ t
one_global_form_by m types e s t a b = a.form ∙ ap (form_given m.types) (same_Some _ _ (sym a.given ∙ b.given)) ∙ sym b.form

-- there is no variable, and so none with an initializer
pub no_initializer : {P : Type 0} (m : PlainModule) → m.globals ≡ [] → (g : ℕ) (v : PlainGlobal) → slice_get m.globals g ≡ Some v → P
no_initializer m none g v at = let e = ap (λ (vs : List PlainGlobal). slice_get vs g) (sym none) ∙ at in cc
