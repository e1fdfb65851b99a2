-- What is kept of a function is what is required of a layer.
use Rattle.std.proofs.Common.{◌≡◌, ℕ, zero, suc, Bool, List, [], ◌∷◌, Some, false, map, length, slice_get, refl, sym, ap, subst, ◌∙◌}
use Rattle.std.specs.Option.{is_some}
use Rattle.spec_expressions.specs.declared.global_use.GlobalUse.{GlobalUse}
use Rattle.function_interface.specs.Analysis.{IsKept}
use Rattle.function_interface.specs.Question.{question}
use Rattle.ir_flags.specs.declared.settings.ValidationFlags.{ValidationFlags}
use Rattle.ir_flags.specs.declared.stages.ShaderStages.{ShaderStages}
use Rattle.ir_items.specs.judged.Plain.{PlainFunction, PlainModule}
use Rattle.typing_references.specs.First.{first_in}
use Rattle.spec_expressions.proofs.SummaryLaws.{joined_by_callees}
use Rattle.spec_expressions.specs.judged.Summaries.{Summary, AgreeOnCallees}
use Rattle.spec_statements.specs.judged.ExpressionStages.{all_stages}
use Rattle.function_tiny_lower.proofs.Joined.{joined_of}
use Rattle.function_tiny_lower.proofs.Typed.{none_untyped, many_told, has_form}
use Rattle.function_tiny_lower.specs.Ends.{summary_of, ends_in}
use Rattle.function_tiny_lower.specs.Readings.{reading_of}
use Rattle.function_tiny_lower.specs.Typing.{types_of}
use Rattle.function_tiny_lower.specs.Values.{resolution_of}
use Rattle.function_tiny_lower.specs.declared.tiny.TinyInfo.{TinyInfo}
use Rattle.function_tiny_lower.specs.declared.value_type.ValueType.{ValueType}
use Rattle.typing_forms.specs.judged.Forms.{NoStructValue}
use Rattle.typing_forms.specs.judged.Resolutions.{resolution_view}
use Rattle.typing_forms.specs.declared.resolution.TypeResolution.{TypeResolution}
use Rattle.typing_errors.specs.Answers.{form_given}

none_named : (types : List ValueType) (e : ℕ) (r : TypeResolution) → slice_get (map resolution_of types) e ≡ Some r → NoStructValue (resolution_view r)
none_named [] e r at = cc (at)
none_named (t ∷ ts) zero r at = subst (λ (x : TypeResolution). NoStructValue (resolution_view x)) (let same : resolution_of t ≡ r = (let f = at in cc (f)) in same) (λ is. is)
none_named (t ∷ ts) (suc e) r at = none_named ts e r at

pub kept_of : (flags : ValidationFlags) (m : PlainModule) (f : PlainFunction) (callees : List TinyInfo) (others : List Summary) (stages : List ShaderStages) (types : List ValueType) (told : List TypeResolution) (may_kill : Bool) (available : ShaderStages) (uses : List GlobalUse)
    → m.globals ≡ [] → AgreeOnCallees f (map summary_of callees) others → map Some types ≡ types_of m f → told ≡ map resolution_of types
    → may_kill ≡ is_some (first_in (ends_in (map summary_of callees)) f.body) → available.0 ≡ all_stages.0 → uses ≡ []
    → IsKept (reading_of (question m f others stages)) flags (question m f others stages) told (record { uses = uses; pairs = []; may_kill = may_kill }) available false
kept_of flags m f callees others stages types told may_kill available uses none agree are is kills all unused = record {
  analysed = none_untyped m f types are;
  typed = record {
    many = ap (λ ts. length (map (form_given m.types) ts)) is ∙ many_told m f types are;
    each = λ e t at. has_form m f types are e t (ap (λ ts. slice_get (map (form_given m.types) ts) e) (sym is) ∙ at);
  };
  named = λ e r at. none_named types e r (ap (λ ts. slice_get ts e) (sym is) ∙ at);
  globals = ap length unused ∙ sym (ap length none);
  joined = joined_by_callees f (map summary_of callees) others agree (length m.globals) _ (joined_of m f callees uses may_kill none (none_untyped m f types are) kills);
  all_run = ap (λ bits. record { 0 = bits }) all;
  unblended = refl;
}
