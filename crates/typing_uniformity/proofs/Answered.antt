-- The walk's result is a requirement in disrupted control flow.
use Rattle.std.proofs.Common.{◌≡◌, ℕ, Bool, true, false, IsTrue, List, length, Option, Some, None, option_map, refl, sym, ap, ◌∙◌, subst}
use Rattle.ir_flags.specs.Sets.{Has}
use Rattle.ir_flags.specs.declared.settings.ValidationFlags.{ValidationFlags}
use Rattle.ir_flags.specs.declared.settings.TheConstants.ValidationFlags.{CONTROL_FLOW_UNIFORMITY}
use Rattle.ir_kinds.specs.declared.diagnostics.Severity.{Severity}
use Rattle.ir_blocks.specs.judged.Plain.{PlainBlock}
use Rattle.spec_expressions.specs.declared.uniformity.Uniformity.{Uniformity}
use Rattle.spec_expressions.specs.found.Found.{required_in}
use Rattle.spec_expressions.proofs.FoundLaws.{asked_sound, asked_complete}
use Rattle.typing_uniformity.specs.Requiring.{asks, AreNext, varies_of, required_of, look_of, required_view}
use Rattle.typing_uniformity.specs.Uniform.{IsAnswer}
use Rattle.typing_uniformity.specs.declared.body_fault.NonUniform.{NonUniform}
use Rattle.typing_uniformity.proofs.Nexts.{is_look}

none_of : (o : Option NonUniform) → o ≡ None → option_map required_view o ≡ None
none_of o e = ap (option_map required_view) e

pub answered : (flags : ValidationFlags) (severity : Severity) (uniformities : List Uniformity) (next : List ℕ) (body : PlainBlock) (o : Option NonUniform)
    → Has flags.0 CONTROL_FLOW_UNIFORMITY.0 → AreNext (asks severity uniformities) (length uniformities) next
    → option_map required_view o ≡ required_in (varies_of uniformities) (look_of uniformities next) false body → IsAnswer flags severity uniformities body o
answered flags severity uniformities next body o flag are is =
    let look = is_look severity uniformities next are in
    record {
      fault = λ f e. record {
        flag = flag;
        fault = asked_sound severity (required_of uniformities) (varies_of uniformities) (look_of uniformities next) look body (required_view f) (sym is ∙ ap (option_map required_view) e);
      };
      clear = λ e x fault. asked_complete severity (required_of uniformities) (varies_of uniformities) (look_of uniformities next) look body (sym is ∙ none_of o e) x fault.fault;
    }
