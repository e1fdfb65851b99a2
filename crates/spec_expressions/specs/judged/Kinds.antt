-- The row of each kind of expression and of statement: the item referred to, its operands, its result, its uniformity requirements,
-- and the stages that may run it. All properties of a kind except its type and its checks are derived from its row.
use Rattle.std.specs.Prelude.{ℕ, Bool, true, false, List, ◌∷◌, Option, Some, None, []}
use Rattle.ir_flags.specs.declared.stages.ShaderStages.{ShaderStages}
use Rattle.ir_flags.specs.declared.stages.TheConstants.ShaderStages.{FRAGMENT, COMPUTE, COMPUTE_LIKE}
use Rattle.typing_layout.specs.IrTypes.{PlainExpression, compose, plain_expression as plain, implicit_derivatives, Expression, SampleLevel}
use Rattle.typing_layout.specs.IrTypes.x as x
use Rattle.ir_items.specs.IrBlocks.{PlainOperation, control_barrier, memory_barrier, store, image_store, atomic, image_atomic, uniform_load, ray_query, ballot, collective, gather, cooperative_store, ray_pipeline, PlainStatement, emit, block, if_, switch, loop, break, continue, return, kill, operation, call, Exit, returns, kills, RayQueryFunction}
use Rattle.ir_items.specs.IrBlocks.ray as ray
use Rattle.spec_expressions.specs.declared.operand.Scoping.TheVariants.{Always, Strictly, Apart}
use Rattle.spec_expressions.specs.declared.operand.Slot.{Slot}
use Rattle.spec_expressions.specs.declared.operand.Usage.TheVariants.{Base, Write, ReadWrite, Query, Atomic}
use Rattle.spec_expressions.specs.declared.target.Target.{Target}
use Rattle.spec_expressions.specs.declared.target.Target.TheVariants as target
use Rattle.spec_expressions.specs.declared.uniformity.TheConstants.UniformityRequirements.{DERIVATIVE, IMPLICIT_LEVEL, COOP_OPS}
use Rattle.spec_expressions.specs.judged.Maths.{math_operands}
use Rattle.spec_expressions.specs.judged.Operands.{Operands, these, each_of, used, reads, reads_if, scoped, level_first, level_second, query_level, comparand, where_answered, gather_index, of_query, of_pipeline, all_strictly}

-- The stages that may run it: any, these, those allowed for the sample level, those of the callee, or those that
-- support subgroup operations.
pub data StageRule : Type 0 where
  any_stage : StageRule
  only : ShaderStages → StageRule
  by_level : SampleLevel → StageRule
  by_callee : (function : ℕ) → StageRule
  by_subgroups : StageRule

-- ---- expressions

-- Whether an expression is a source of non-uniformity, whatever its operands are: no, yes, or as the argument or
-- the global variable is.
pub data Variation : Type 0 where
  uniform : Variation
  varying : Variation
  as_argument : (number : ℕ) → Variation
  as_global : (global : ℕ) → Variation

-- The item that an expression refers to, its operands, in order those of them whose types determine its type, the bits of its
-- uniformity requirements, and whether it is emitted: result expressions of statements are not.
pub record ExpressionRow : Type 0 where
  pub item : Option Target
  pub slots : Operands
  pub typed : List ℕ
  pub requirement : ℕ
  pub variation : Variation
  pub stages : StageRule
  pub emitted : Bool

-- it computes a value from its operands
abbrev pub computes : List Slot → (typed : List ℕ) → ExpressionRow
computes slots typed = record { item = None; slots = these slots; typed = typed; requirement = 0; variation = uniform; stages = any_stage; emitted = true }

-- it has no operands, and refers to an item
abbrev pub names_item : Target → ExpressionRow
names_item t = record (computes [] []) { item = Some t }

-- it is the result of a statement
abbrev pub denotes_result : Option Target → ExpressionRow
denotes_result t = record (computes [] []) { item = t; variation = varying; emitted = false }

abbrev pub implicit_level : Bool → ℕ
implicit_level o = elim o [ true ↦ IMPLICIT_LEVEL.0 | false ↦ 0 ]

abbrev pub expression_row : Expression → ExpressionRow
expression_row (x.Literal value) = computes [] []
expression_row (x.Constant constant) = names_item (target.Constant constant)
expression_row (x.Override override) = names_item (target.Override override)
expression_row (x.ZeroValue type) = names_item (target.Type type)
expression_row (x.Compose type components) = record (names_item (target.Type type)) { slots = each_of Strictly components.items }
expression_row (x.Access base index) = computes (used Base base ∷ reads index ∷ []) (base ∷ [])
expression_row (x.AccessIndex base index) = computes (used Base base ∷ []) (base ∷ [])
expression_row (x.Splat size value) = computes (reads value ∷ []) (value ∷ [])
expression_row (x.Swizzle size vector pattern) = computes (reads vector ∷ []) (vector ∷ [])
expression_row (x.FunctionArgument number) = record (computes [] []) { variation = as_argument number }
expression_row (x.GlobalVariable global) = record (names_item (target.GlobalVariable global)) { variation = as_global global }
expression_row (x.LocalVariable local) = record (names_item (target.LocalVariable local)) { variation = varying }
expression_row (x.Load pointer) = computes (reads pointer ∷ []) (pointer ∷ [])
expression_row (x.ImageSample image sampler gathers coordinate array_index offset level depth_ref clamp_to_edge) =
    record (computes (reads image ∷ reads sampler ∷ reads coordinate ∷ reads_if array_index ∷ reads_if offset
    ∷ reads_if (level_first level) ∷ reads_if (level_second level) ∷ reads_if depth_ref ∷ []) (image ∷ []))
    { requirement = implicit_level (implicit_derivatives level); stages = by_level level }
expression_row (x.ImageLoad image coordinate array_index sample level) =
    computes (reads image ∷ reads coordinate ∷ reads_if array_index ∷ reads_if sample ∷ reads_if level ∷ []) (image ∷ [])
expression_row (x.ImageQuery image query) = computes (used Query image ∷ reads_if (query_level query) ∷ []) (image ∷ [])
expression_row (x.Unary op expr) = computes (reads expr ∷ []) (expr ∷ [])
expression_row (x.Binary op left right) = computes (reads left ∷ reads right ∷ []) (left ∷ right ∷ [])
expression_row (x.Select condition accept reject) = computes (reads condition ∷ reads accept ∷ reads reject ∷ []) (accept ∷ [])
expression_row (x.Derivative axis ctrl expr) = record (computes (reads expr ∷ []) (expr ∷ [])) { requirement = DERIVATIVE.0; stages = only FRAGMENT }
expression_row (x.Relational fun argument) = computes (reads argument ∷ []) (argument ∷ [])
expression_row (x.Math fun arg arg1 arg2 arg3) = computes (reads arg ∷ reads_if arg1 ∷ reads_if arg2 ∷ reads_if arg3 ∷ []) (math_operands arg arg1 arg2 arg3)
expression_row (x.As expr kind convert) = computes (reads expr ∷ []) (expr ∷ [])
expression_row (x.CallResult function) = record (denotes_result (Some (target.Function function))) { stages = by_callee function }
expression_row (x.AtomicResult type comparison) = denotes_result (Some (target.Type type))
expression_row (x.WorkGroupUniformLoadResult type) = record (denotes_result (Some (target.Type type))) { variation = uniform }
expression_row (x.ArrayLength array) = computes (used Query array ∷ []) []
expression_row (x.RayQueryVertexPositions query committed) = computes (reads query ∷ []) []
expression_row x.RayQueryProceedResult = denotes_result None
expression_row (x.RayQueryGetIntersection query committed) = computes (reads query ∷ []) []
expression_row x.SubgroupBallotResult = denotes_result None
expression_row (x.SubgroupOperationResult type) = denotes_result (Some (target.Type type))
expression_row (x.CooperativeLoad columns rows role place) =
    record (computes (reads place.pointer ∷ reads place.stride ∷ []) (place.pointer ∷ [])) { requirement = COOP_OPS.0; stages = only COMPUTE }
expression_row (x.CooperativeMultiplyAdd a b c) =
    record (computes (reads a ∷ reads b ∷ reads c ∷ []) (c ∷ [])) { requirement = COOP_OPS.0; stages = only COMPUTE }

-- the row of an expression with a list of components
abbrev pub row_of_expression : PlainExpression → ExpressionRow
row_of_expression (compose type components) = record (names_item (target.Type type)) { slots = each_of Strictly components }
row_of_expression (plain expression) = expression_row expression

-- its operands are expressions of the same list, and must be in scope where it is emitted under strict scope
abbrev pub expression_slots : PlainExpression → Operands
expression_slots x = all_strictly (row_of_expression x).slots

-- ---- statements

-- An operation's operands, its result expression, whether the result is exclusive to it (an atomic operation's), and the
-- result of a workgroup barrier, if it contains one.
pub record OperationRow : Type 0 where
  pub slots : List Slot
  pub result : Option ℕ
  pub answer : Option ℕ
  pub waits : Option ℕ
  pub stages : StageRule

abbrev pub operates : List Slot → (result : Option ℕ) → OperationRow
operates slots result = record { slots = slots; result = result; answer = None; waits = None; stages = any_stage }

-- the result expression of a ray query statement
abbrev pub ray_result : RayQueryFunction → Option ℕ
ray_result (ray.Initialize acceleration_structure descriptor) = None
ray_result (ray.Proceed result) = Some result
ray_result (ray.GenerateIntersection hit_t) = None
ray_result ray.ConfirmIntersection = None
ray_result ray.Terminate = None

abbrev pub operation_row : PlainOperation → OperationRow
operation_row (control_barrier barrier) = record (operates [] None) { stages = only COMPUTE_LIKE }
operation_row (memory_barrier barrier) = record (operates [] None) { stages = only COMPUTE_LIKE }
operation_row (store pointer value) = operates (scoped Strictly (used Write pointer) ∷ reads value ∷ []) None
operation_row (image_store image coordinate array_index value) =
    operates (scoped Strictly (used Write image) ∷ reads coordinate ∷ reads_if array_index ∷ reads value ∷ []) None
operation_row (atomic pointer fun value result) =
    record (operates (used ReadWrite pointer ∷ reads value ∷ scoped (where_answered result) (reads_if (comparand fun)) ∷ []) result) { answer = result }
operation_row (image_atomic image coordinate array_index fun value) =
    operates (scoped Strictly (used Atomic image) ∷ reads coordinate ∷ reads_if array_index ∷ reads value
    ∷ scoped Strictly (reads_if (comparand fun)) ∷ []) None
operation_row (uniform_load pointer result) = record (operates (reads pointer ∷ []) (Some result)) { waits = Some result; stages = only COMPUTE_LIKE }
operation_row (ray_query query fun) = operates (scoped Strictly (reads query) ∷ of_query fun) (ray_result fun)
operation_row (ballot result predicate) = record (operates (reads_if predicate ∷ []) (Some result)) { stages = by_subgroups }
operation_row (collective op collective_op argument result) = record (operates (reads argument ∷ []) (Some result)) { stages = by_subgroups }
operation_row (gather mode argument result) = record (operates (reads_if (gather_index mode) ∷ reads argument ∷ []) (Some result)) { stages = by_subgroups }
operation_row (cooperative_store target place) =
    record (operates (reads target ∷ scoped Strictly (used Write place.pointer) ∷ scoped Strictly (reads place.stride) ∷ []) None) { stages = only COMPUTE }
operation_row (ray_pipeline fun) = operates (of_pipeline fun) None

-- The range of expressions that a statement emits: from the first up to, excluding, the end.
pub record Emitted : Type 0 where
  pub first : ℕ
  pub end : ℕ

-- A statement without its nested statements: its operation, the range that it emits, its
-- callee and arguments, the value that selects which of its parts runs, and whether it is a return or a discard.
pub record StatementRow : Type 0 where
  pub slots : Operands
  pub result : Option ℕ
  pub answer : Option ℕ
  pub waits : Option ℕ
  pub emits : Option Emitted
  pub calls : Option (ℕ × List ℕ)
  pub chosen : Option ℕ
  pub ends : Option Exit
  pub stages : StageRule

abbrev pub acts : List Slot → StatementRow
acts slots =
    record { slots = these slots; result = None; answer = None; waits = None; emits = None; calls = None; chosen = None; ends = None; stages = any_stage }

abbrev pub operates_as : OperationRow → StatementRow
operates_as row = record (acts row.slots) { result = row.result; answer = row.answer; waits = row.waits; stages = row.stages }

-- a loop's condition is an operand of the loop, and a call's result is no operand of the statement
abbrev pub statement_row : PlainStatement → StatementRow
statement_row (emit first end) = record (acts []) { emits = Some (record { first = first; end = end }) }
statement_row (block b) = acts []
statement_row (if_ condition accept reject) = record (acts (reads condition ∷ [])) { chosen = Some condition }
statement_row (switch selector cases) = record (acts (reads selector ∷ [])) { chosen = Some selector }
statement_row (loop body continuing break_if) = acts (scoped Apart (reads_if break_if) ∷ [])
statement_row break = acts []
statement_row continue = acts []
statement_row (return value) = record (acts (reads_if value ∷ [])) { ends = Some returns }
statement_row kill = record (acts []) { ends = Some kills; stages = only FRAGMENT }
statement_row (operation a) = operates_as (operation_row a)
statement_row (call function arguments result) =
    record (acts []) { slots = each_of Always arguments; result = result; answer = result; calls = Some (function, arguments); stages = by_callee function }

abbrev pub statement_slots : PlainStatement → Operands
statement_slots s = (statement_row s).slots
