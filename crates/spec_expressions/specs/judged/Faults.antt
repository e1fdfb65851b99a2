-- Uniformity faults of a function.
use Rattle.std.specs.Prelude.{ℕ, List, Option, Some, None, slice_get}
use Rattle.ir_flags.specs.declared.settings.ValidationFlags.{ValidationFlags}
use Rattle.ir_kinds.specs.declared.diagnostics.Severity.{Severity}
use Rattle.ir_kinds.specs.declared.diagnostics.StandardFilterableTriggeringRule.TheVariants.{DerivativeUniformity}
use Rattle.typing_layout.specs.IrTypes.{PlainExpression}
use Rattle.ir_items.specs.judged.Plain.{PlainFunction, PlainModule}
use Rattle.spec_expressions.specs.judged.Values.{NonUniform as Varies, requirements_of}
use Rattle.spec_expressions.specs.judged.Severity.{HasSeverity}
use Rattle.spec_expressions.specs.judged.Uniformity.{Required, UniformityFault}

abbrev pub requirement_in : Option PlainExpression → ℕ
requirement_in o = elim o [ None ↦ 0 | Some x ↦ requirements_of x ]

-- the bits of the requirements of the expression at an index
abbrev pub requirement_at : List PlainExpression → ℕ → ℕ
requirement_at expressions e = requirement_in (slice_get expressions e)

-- A uniformity fault of a function, given the severity of derivatives, which values are non-uniform, and the requirements of
-- its expressions.
pub record FunctionFault (flags : ValidationFlags) (m : PlainModule) (f : PlainFunction) (x : Required) : Type 0 where
  pub severity : Severity
  pub severe : HasSeverity m f DerivativeUniformity severity
  pub fault : UniformityFault flags severity (requirement_at f.expressions) (Varies m f) f.body x
