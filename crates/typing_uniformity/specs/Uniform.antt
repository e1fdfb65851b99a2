-- Uniformity faults, given the facts about expressions.
use Rattle.std.specs.Prelude.{◌≡◌, ℕ, IsTrue, List, Option, Some, None}
use Rattle.ir_flags.specs.declared.settings.ValidationFlags.{ValidationFlags}
use Rattle.ir_kinds.specs.declared.diagnostics.Severity.{Severity}
use Rattle.ir_blocks.specs.judged.Plain.{PlainBlock}
use Rattle.spec_expressions.specs.declared.uniformity.Uniformity.{Uniformity}
use Rattle.spec_expressions.specs.judged.Uniformity.{Required, UniformityFault}
use Rattle.typing_uniformity.specs.Requiring.{varies_of, required_of, required_view}
use Rattle.typing_uniformity.specs.declared.body_fault.NonUniform.{NonUniform}

-- the value of the expression is non-uniform by the facts
abbrev pub VariesBy : List Uniformity → ℕ → Type 0
VariesBy uniformities e = IsTrue (varies_of uniformities e)

-- a uniformity fault, given which values are non-uniform and which requirements expressions have
abbrev pub FaultBy : ValidationFlags → Severity → List Uniformity → PlainBlock → Required → Type 0
FaultBy flags severity uniformities body x = UniformityFault flags severity (required_of uniformities) (VariesBy uniformities) body x

-- the result for a body: a fault, or none
pub record IsAnswer (flags : ValidationFlags) (severity : Severity) (uniformities : List Uniformity) (body : PlainBlock) (found : Option NonUniform) : Type 0 where
  pub fault : (f : NonUniform) → found ≡ Some f → FaultBy flags severity uniformities body (required_view f)
  pub clear : found ≡ None → (x : Required) → FaultBy flags severity uniformities body x → ⊥
