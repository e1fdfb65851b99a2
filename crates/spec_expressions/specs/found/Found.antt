-- Requirements in non-uniform control flow, computed step by step.
use Rattle.std.specs.Prelude.{◌≡◌, ℕ, Bool, true, false, ◌||◌, Option, Some, None}
use Rattle.ir_kinds.specs.declared.diagnostics.Severity.{Severity}
use Rattle.ir_items.specs.IrBlocks.{PlainOperation, control_barrier, memory_barrier, store, image_store, atomic, image_atomic, uniform_load, ray_query, ballot, collective, gather, cooperative_store, ray_pipeline, PlainStatement, emit, block, if_, switch, loop, break, continue, return, kill, operation, call, PlainBlock, stop, next, PlainCases, no_case, case}
use Rattle.spec_expressions.specs.declared.uniformity.TheConstants.UniformityRequirements.{WORK_GROUP_BARRIER}
use Rattle.spec_expressions.specs.judged.Disruption.{ends_in, ends_at}
use Rattle.spec_expressions.specs.judged.Uniformity.{Required, EmitRequires}

abbrev pub first_required : Option Required → Option Required → Option Required
first_required None b = b
first_required (Some x) b = Some x

abbrev pub where_disrupted : Bool → Option Required → Option Required
where_disrupted true x = x
where_disrupted false x = None

abbrev pub operation_required : PlainOperation → Option Required
operation_required (control_barrier barrier) = None
operation_required (memory_barrier barrier) = None
operation_required (store pointer value) = None
operation_required (image_store image coordinate array_index value) = None
operation_required (atomic pointer fun value result) = None
operation_required (image_atomic image coordinate array_index fun value) = None
operation_required (uniform_load pointer result) = Some (record { requirement = WORK_GROUP_BARRIER.0; expression = result })
operation_required (ray_query query fun) = None
operation_required (ballot result predicate) = None
operation_required (collective op collective_op argument result) = None
operation_required (gather mode argument result) = None
operation_required (cooperative_store target place) = None
operation_required (ray_pipeline fun) = None

-- The first requirement at a disrupted place of a body, which may be disrupted as a whole; `look` looks up the
-- requirements of the expressions of a range.
abbrev mutual
  pub required_in : (varies : ℕ → Bool) → (look : ℕ → ℕ → Option Required) → Bool → PlainBlock → Option Required
  required_in varies look d stop = None
  required_in varies look d (next s rest) = first_required (required_at varies look d s) (required_in varies look (d || ends_at varies d s) rest)

  pub required_at : (varies : ℕ → Bool) → (look : ℕ → ℕ → Option Required) → Bool → PlainStatement → Option Required
  required_at varies look d (emit first end) = where_disrupted d (look first end)
  required_at varies look d (block b) = required_in varies look d b
  required_at varies look d (if_ h accept reject) =
      first_required (required_in varies look (d || varies h) accept) (required_in varies look (d || varies h) reject)
  required_at varies look d (switch h cases) = required_in_cases varies look (d || varies h) cases
  required_at varies look d (loop body continuing break_if) =
      first_required (required_in varies look d body) (required_in varies look (d || ends_in varies d body) continuing)
  required_at varies look d break = None
  required_at varies look d continue = None
  required_at varies look d (return value) = None
  required_at varies look d kill = None
  required_at varies look d (operation a) = where_disrupted d (operation_required a)
  required_at varies look d (call function arguments result) = None

  pub required_in_cases : (varies : ℕ → Bool) → (look : ℕ → ℕ → Option Required) → Bool → PlainCases → Option Required
  required_in_cases varies look d no_case = None
  required_in_cases varies look d (case value body falls rest) = first_required (required_in varies look d body) (required_in_cases varies look d rest)

-- The look-up returns one of the requirements, and returns one wherever there is one.
pub record IsLook (severity : Severity) (required : ℕ → ℕ) (look : ℕ → ℕ → Option Required) : Type 0 where
  pub found : (first end : ℕ) (x : Required) → look first end ≡ Some x → EmitRequires severity required first end x
  pub none : (first end : ℕ) (x : Required) → look first end ≡ None → EmitRequires severity required first end x → ⊥
