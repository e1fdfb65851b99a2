-- The information on a function for its callers, and which statements execute `Kill`.
use Rattle.std.specs.Prelude.{List, [], Option, Some, None, Bool, false, if◌then◌else◌, slice_get}
use Rattle.ir_blocks.specs.judged.Plain.{PlainStatement, emit, block, if_, switch, loop, break, continue, return, kill, operation, call}
use Rattle.ir_flags.specs.declared.stages.ShaderStages.{ShaderStages}
use Rattle.spec_expressions.specs.judged.Summaries.{Summary}
use Rattle.function_tiny_lower.specs.declared.tiny.TinyInfo.{TinyInfo}

-- it has the noted uses of global variables, and no sampling pair
abbrev pub summary_of : TinyInfo → Summary
summary_of info = record { uses = info.uses.items; pairs = []; may_kill = info.may_kill }

-- the stages that may run it, as far as noted
abbrev pub noted_of : TinyInfo → ShaderStages
noted_of info = info.stages

-- the function with this summary may execute `Kill`
abbrev pub may_end : Option Summary → Bool
may_end (Some s) = s.may_kill
may_end None = false

-- a statement that executes `Kill`, itself or in a callee, is found
abbrev pub ends_in : List Summary → PlainStatement → Option (Unit {0})
ends_in summaries (emit first end) = None
ends_in summaries (block b) = None
ends_in summaries (if_ condition accept reject) = None
ends_in summaries (switch selector cases) = None
ends_in summaries (loop body continuing break_if) = None
ends_in summaries break = None
ends_in summaries continue = None
ends_in summaries (return value) = None
ends_in summaries kill = Some (record {})
ends_in summaries (operation a) = None
ends_in summaries (call function arguments result) = if may_end (slice_get summaries function) then Some (record {}) else None
