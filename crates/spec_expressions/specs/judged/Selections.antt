-- Types of `Select` and `Relational`.
use Rattle.std.specs.Prelude.{Result, Ok}
use Rattle.ir_kinds.specs.declared.operators.RelationalFunction.{RelationalFunction}
use Rattle.ir_kinds.specs.declared.operators.RelationalFunction.TheVariants.{All, Any, IsNan, IsInf}
use Rattle.ir_kinds.specs.judged.Scalars.{boolean}
use Rattle.typing_layout.specs.TypingForms.{Form}
use Rattle.typing_layout.specs.TypingForms.form as form
use Rattle.spec_expressions.specs.judged.Operators.{truth_of}
use Rattle.spec_expressions.specs.declared.faults.TypingFault.{TypingFault}

-- `All` and `Any` give one bool; `IsNan` and `IsInf` one per component
abbrev pub relational_type : RelationalFunction → (of : Form) → Result Form TypingFault
relational_type All of = Ok (form.Scalar boolean)
relational_type Any of = Ok (form.Scalar boolean)
relational_type IsNan of = truth_of of
relational_type IsInf of = truth_of of
