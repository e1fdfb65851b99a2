-- A function that is accepted, and what is kept of it.
use Rattle.std.proofs.Common.{◌≡◌, ◌↔◌, ℕ, Bool, List, Option, IsTrue, sym, subst}
use Rattle.std.specs.Int.RustNames.{bit_and}
use Rattle.ir_flags.specs.Sets.{Has}
use Rattle.ir_flags.specs.declared.stages.ShaderStages.{ShaderStages}
use Rattle.ir_flags.specs.declared.settings.Settings.{Settings}
use Rattle.ir_items.specs.judged.Plain.{PlainFunction, PlainModule}
use Rattle.typing_rules.specs.judged.Laws.{IsAmong}
use Rattle.spec_expressions.specs.judged.Summaries.{Summary, IsJoined, HasUseBit}
use Rattle.spec_statements.specs.judged.ExpressionStages.{all_stages}
use Rattle.spec_expressions.specs.judged.CallArities.{AritiesMatch}
use Rattle.spec_statements.specs.judged.BlockContext.{BlockContext}
use Rattle.spec_statements.specs.judged.Functions.{Reading, AreFormsBy, FunctionOK, AllowsStage, block_context}
use Rattle.typing_forms.specs.declared.form.Form.{Form}
use Rattle.function_whole.proofs.Below.{right_has, both_have}
use Rattle.function_whole.specs.Judged.{ArePartsMet}

pub accepted : (R : Reading) (s : Settings) (entry : Bool) (before : Option ℕ) (m : PlainModule) (f : PlainFunction) (forms : List Form) (callees : List ShaderStages) (stages : ShaderStages) (held : Option ℕ)
    → AritiesMatch m f → R.IsAnalysed s.flags → AreFormsBy R f forms → ArePartsMet R s entry before (block_context s m f forms) callees stages held → FunctionOK R s entry before m f
accepted R s entry before m f forms callees stages held arity analysed typed met = record {
  arity = arity;
  analysed = analysed;
  forms = forms;
  typed = typed;
  interface = met.interface;
  expressions = met.expressions;
  body = met.body;
}

pub stages_noted : (R : Reading) (s : Settings) (entry : Bool) (first : Option ℕ) (c : BlockContext) (callees : List ShaderStages) (stages : ShaderStages) (held : Option ℕ) (before after : ShaderStages)
    → before ≡ all_stages → after.0 ≡ bit_and before.0 stages.0 → ArePartsMet R s entry first c callees stages held
    → (stage : ℕ) → Has after.0 stage ↔ (Has all_stages.0 stage × AllowsStage R s callees c.f stage)
stages_noted R s entry first c callees stages held before after all is met stage = (
  (λ h. (met.run stage).0 (right_has before.0 stages.0 stage (subst (λ x. Has x stage) is h))),
  (λ h. subst (λ x. Has x stage) (sym is) (both_have before.0 stages.0 stage (subst (λ (x : ShaderStages). Has x.0 stage) (sym all) h.0) ((met.run stage).1 h))),
)

pub joined_noted : (n : ℕ) (f : PlainFunction) (summaries : List Summary) (old new : Summary) → ((g k : ℕ) → HasUseBit new.uses g k ↔ HasUseBit old.uses g k) → new.pairs ≡ old.pairs → new.may_kill ≡ old.may_kill
    → IsJoined n f summaries old → IsJoined n f summaries new
joined_noted n f summaries old new uses pairs kill joined = record {
  uses = λ g k lt. ((λ h. (joined.uses g k lt).0 ((uses g k).0 h)), (λ h. (uses g k).1 ((joined.uses g k lt).1 h)));
  pairs = λ p. ((λ h. (joined.pairs p).0 (subst (IsAmong p) pairs h)), (λ h. subst (IsAmong p) (sym pairs) ((joined.pairs p).1 h)));
  may_kill = ((λ h. joined.may_kill.0 (subst IsTrue kill h)), (λ h. subst IsTrue (sym kill) (joined.may_kill.1 h)));
}
