-- The plain data and the spans of blocks.
use Rattle.std.specs.Prelude.{◌≡◌, ℕ, Bool, List, [], ◌∷◌, map, length, vec_capacity}
use Rattle.ir_types.specs.IrArena.{Span}
use Rattle.ir_types.specs.IrKinds.{SwitchValue}
use Rattle.ir_blocks.specs.judged.Plain.{control_barrier, memory_barrier, store, image_store, atomic, image_atomic, uniform_load, ray_query, ballot, collective, gather, cooperative_store, ray_pipeline, PlainStatement, emit, block, if_, switch, loop, break, continue, return, kill, operation, call, PlainBlock, stop, next, PlainCases, no_case, case}
use Rattle.ir_blocks.specs.found.Spans.{BlockSpans, spans, InnerSpans, no_statement, in_next, StatementSpans, no_block, in_block, in_sides, in_cases, in_loop, CaseSpans, no_more, in_case, InStep}
use Rattle.ir_blocks.specs.found.Padded.{padded}
use Rattle.ir_blocks.specs.declared.statements.Statement.{Statement}
use Rattle.ir_blocks.specs.declared.statements.Statement.TheOpen.{Statement-F, Block-F, SwitchCase-F}
use Rattle.ir_blocks.specs.declared.statements.Statement.TheFolds.{fold-Statement, fold-Block, fold-SwitchCase}
use Rattle.ir_blocks.specs.declared.statements.Block.{Block, out-Block}
use Rattle.ir_blocks.specs.declared.statements.SwitchCase.{SwitchCase}

-- these statements, as a block
abbrev pub block_of : List PlainStatement → PlainBlock
block_of [] = stop
block_of (s ∷ ss) = next s (block_of ss)

-- a switch case
pub record PlainCase : Type 0 where
  pub value : SwitchValue
  pub body : PlainBlock
  pub falls : Bool

-- these cases, as those of a switch
abbrev pub cases_of : List PlainCase → PlainCases
cases_of [] = no_case
cases_of (c ∷ cs) = case c.value c.body c.falls (cases_of cs)

-- one layer, whose nested blocks are already replaced by their plain data
abbrev pub statement_step : Statement-F PlainStatement PlainBlock PlainCase → PlainStatement
statement_step (Statement-F.Emit range) = emit range.0 range.1
statement_step (Statement-F.Block b) = block b
statement_step (Statement-F.If condition accept reject) = if_ condition accept reject
statement_step (Statement-F.Switch selector cases) = switch selector (cases_of cases.items)
statement_step (Statement-F.Loop body continuing break_if) = loop body continuing break_if
statement_step Statement-F.Break = break
statement_step Statement-F.Continue = continue
statement_step (Statement-F.Return value) = return value
statement_step Statement-F.Kill = kill
statement_step (Statement-F.ControlBarrier barrier) = operation (control_barrier barrier)
statement_step (Statement-F.MemoryBarrier barrier) = operation (memory_barrier barrier)
statement_step (Statement-F.Store pointer value) = operation (store pointer value)
statement_step (Statement-F.ImageStore image coordinate array_index value) = operation (image_store image coordinate array_index value)
statement_step (Statement-F.Atomic pointer fun value result) = operation (atomic pointer fun value result)
statement_step (Statement-F.ImageAtomic image coordinate array_index fun value) = operation (image_atomic image coordinate array_index fun value)
statement_step (Statement-F.WorkGroupUniformLoad pointer result) = operation (uniform_load pointer result)
statement_step (Statement-F.Call function arguments result) = call function arguments.items result
statement_step (Statement-F.RayQuery query fun) = operation (ray_query query fun)
statement_step (Statement-F.SubgroupBallot result predicate) = operation (ballot result predicate)
statement_step (Statement-F.SubgroupCollectiveOperation op collective_op argument result) = operation (collective op collective_op argument result)
statement_step (Statement-F.SubgroupGather mode argument result) = operation (gather mode argument result)
statement_step (Statement-F.CooperativeStore target place) = operation (cooperative_store target place)
statement_step (Statement-F.RayPipelineFunction fun) = operation (ray_pipeline fun)

abbrev pub block_step : Block-F PlainStatement PlainBlock PlainCase → PlainBlock
block_step b = block_of b.body.items

abbrev pub case_step : SwitchCase-F PlainStatement PlainBlock PlainCase → PlainCase
case_step c = record { value = c.value; body = c.body; falls = c.fall_through }

abbrev pub statement_view : Statement → PlainStatement
statement_view = fold-Statement PlainStatement PlainBlock PlainCase statement_step block_step case_step

abbrev pub block_view : Block → PlainBlock
block_view = fold-Block PlainStatement PlainBlock PlainCase statement_step block_step case_step

abbrev pub case_view : SwitchCase → PlainCase
case_view = fold-SwitchCase PlainStatement PlainBlock PlainCase statement_step block_step case_step

-- a list of statements, as a block
abbrev pub statements_view : List Statement → PlainBlock
statements_view statements = block_of (map statement_view statements)

-- the spans nested in these statements, as those nested in a block
abbrev pub within_of : List StatementSpans → InnerSpans
within_of [] = no_statement
within_of (s ∷ ss) = in_next s (within_of ss)

-- the spans of these cases' blocks, as those of a switch
abbrev pub case_spans_of : List BlockSpans → CaseSpans
case_spans_of [] = no_more
case_spans_of (b ∷ bs) = in_case b (case_spans_of bs)

-- one layer, whose nested blocks are already replaced by their spans: a statement without blocks has none
abbrev pub statement_spans_step : Statement-F StatementSpans BlockSpans BlockSpans → StatementSpans
statement_spans_step (Statement-F.Block b) = in_block b
statement_spans_step (Statement-F.If condition accept reject) = in_sides accept reject
statement_spans_step (Statement-F.Switch selector cases) = in_cases (case_spans_of cases.items)
statement_spans_step (Statement-F.Loop body continuing break_if) = in_loop body continuing
statement_spans_step _ = no_block

-- these stored spans, as those of a block with these nested spans
abbrev pub spans_over : List Span → List StatementSpans → BlockSpans
spans_over kept within = spans (padded (length within) kept) (within_of within)

abbrev pub block_spans_step : Block-F StatementSpans BlockSpans BlockSpans → BlockSpans
block_spans_step b = spans_over b.span_info b.body.items

abbrev pub case_spans_step : SwitchCase-F StatementSpans BlockSpans BlockSpans → BlockSpans
case_spans_step c = c.body

-- the spans nested in a statement, a block and a case, at every depth
abbrev pub statement_spans : Statement → StatementSpans
statement_spans = fold-Statement StatementSpans BlockSpans BlockSpans statement_spans_step block_spans_step case_spans_step

abbrev pub block_spans : Block → BlockSpans
block_spans = fold-Block StatementSpans BlockSpans BlockSpans statement_spans_step block_spans_step case_spans_step

abbrev pub case_block_spans : SwitchCase → BlockSpans
case_block_spans = fold-SwitchCase StatementSpans BlockSpans BlockSpans statement_spans_step block_spans_step case_spans_step

-- the statements of a block, and the span of each
abbrev pub statements_of : Block → List Statement
statements_of b = (out-Block b).body.items

abbrev pub spans_of : Block → List Span
spans_of b = padded (length (statements_of b)) (out-Block b).span_info

-- the statement capacity of a block
abbrev pub room_for_statements : Block → ℕ
room_for_statements b = vec_capacity (out-Block b).body

-- a block has as many spans as statements, and at every depth each place of a statement has a span, and no
-- other place has one
abbrev pub AlwaysInStep : Type 0
AlwaysInStep = (b : Block) → (length (spans_of b) ≡ length (statements_of b)) × InStep (block_view b) (block_spans b)

-- the statement has no nested block
abbrev pub HoldsNoBlock : PlainStatement → Type 0
HoldsNoBlock (block body) = ⊥
HoldsNoBlock (if_ condition accept reject) = ⊥
HoldsNoBlock (switch selector cases) = ⊥
HoldsNoBlock (loop body continuing break_if) = ⊥
HoldsNoBlock _ = Unit {0}

-- the statement is a plain operation: no control flow, no `Emit`, no call
abbrev pub IsAct : PlainStatement → Type 0
IsAct (operation a) = Unit {0}
IsAct _ = ⊥

-- the statement is of ray queries, subgroups, cooperative matrices or ray tracing pipelines
abbrev pub IsSharedAct : PlainStatement → Type 0
IsSharedAct (operation (ray_query query fun)) = Unit {0}
IsSharedAct (operation (ballot result predicate)) = Unit {0}
IsSharedAct (operation (collective op collective_op argument result)) = Unit {0}
IsSharedAct (operation (gather mode argument result)) = Unit {0}
IsSharedAct (operation (cooperative_store target place)) = Unit {0}
IsSharedAct (operation (ray_pipeline fun)) = Unit {0}
IsSharedAct _ = ⊥
