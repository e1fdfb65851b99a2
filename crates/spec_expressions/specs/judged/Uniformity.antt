-- Requirements of uniform control flow, in non-uniform control flow.
use Rattle.std.specs.Prelude.{◌≡◌, ℕ, ◌<◌, ◌≤◌, false, Option, Some, None}
use Rattle.ir_flags.specs.Sets.{Has}
use Rattle.ir_flags.specs.declared.settings.ValidationFlags.{ValidationFlags}
use Rattle.ir_flags.specs.declared.settings.TheConstants.ValidationFlags.{CONTROL_FLOW_UNIFORMITY}
use Rattle.ir_kinds.specs.declared.diagnostics.Severity.{Severity}
use Rattle.ir_kinds.specs.declared.diagnostics.Severity.TheVariants.{Error}
use Rattle.ir_items.specs.IrBlocks.{PlainStatement, PlainBlock, Place, OccursAt}
use Rattle.spec_expressions.specs.judged.Kinds.{Emitted, statement_row}
use Rattle.spec_expressions.specs.declared.uniformity.TheConstants.UniformityRequirements.{WORK_GROUP_BARRIER, DERIVATIVE, IMPLICIT_LEVEL, COOP_OPS}
use Rattle.spec_expressions.specs.judged.Disruption.{Disrupted}

-- A requirement of an expression counts: for cooperative matrices always, for derivatives if the derivative rule has that
-- severity. These are the bits of `UniformityRequirements`.
pub data Counts (severity : Severity) : ℕ → Type 0 where
  cooperative : Counts severity COOP_OPS.0
  derivative : severity ≡ Error → Counts severity DERIVATIVE.0
  implicit_level : severity ≡ Error → Counts severity IMPLICIT_LEVEL.0

-- The requirement, and the expression that has it.
pub record Required : Type 0 where
  pub requirement : ℕ
  pub expression : ℕ

-- the requirement of an expression of a range, given the requirements of expressions by `required`
pub record EmitRequires (severity : Severity) (required : ℕ → ℕ) (first end : ℕ) (x : Required) : Type 0 where
  pub from_first : first ≤ x.expression
  pub below_end : x.expression < end
  pub requirement : x.requirement ≡ required x.expression
  pub counts : Counts severity x.requirement

-- a workgroup barrier with a result is required by the result expression
abbrev pub WaitRequires : (waits : Option ℕ) → Required → Type 0
WaitRequires waits x = elim waits [ None ↦ ⊥ | Some result ↦ (x.requirement ≡ WORK_GROUP_BARRIER.0) × (x.expression ≡ result) ]

abbrev pub RowRequires : Severity → (ℕ → ℕ) → (emits : Option Emitted) → (waits : Option ℕ) → Required → Type 0
RowRequires severity required (Some range) waits x = EmitRequires severity required range.first range.end x
RowRequires severity required None waits x = WaitRequires waits x

-- the requirement of a statement itself, without its nested statements
abbrev pub Requires : Severity → (ℕ → ℕ) → PlainStatement → Required → Type 0
Requires severity required s x = RowRequires severity required (statement_row s).emits (statement_row s).waits x

-- A statement at a disrupted place of the body has the requirement.
pub record DisruptedRequirement (severity : Severity) (required : ℕ → ℕ) (varies : ℕ → Type 0) (body : PlainBlock) (x : Required) : Type 0 where
  pub place : Place
  pub statement : PlainStatement
  pub stands : OccursAt body place statement
  pub asks : Requires severity required statement x
  pub disrupted : Disrupted varies false body place

-- A uniformity fault of a body, under the flags.
pub record UniformityFault (flags : ValidationFlags) (severity : Severity) (required : ℕ → ℕ) (varies : ℕ → Type 0) (body : PlainBlock)
    (x : Required) : Type 0 where
  pub flag : Has flags.0 CONTROL_FLOW_UNIFORMITY.0
  pub fault : DisruptedRequirement severity required varies body x
