-- The spans of bodies, of copies and of `Emit` statements, and the completion with returns, re-exported.
pub use Rattle.ir_blocks.specs.found.Spans.{BlockSpans, spans, InnerSpans, no_statement, in_next, StatementSpans, no_block, in_block, in_sides, in_loop, CaseSpans, no_more, in_case, span_at, InStep}
pub use Rattle.ir_blocks.specs.found.Padded.{padded, KeptEquality}
pub use Rattle.ir_blocks.specs.found.View.{AlwaysInStep}
pub use Rattle.ir_blocks.specs.found.TailSpans.{SpansCompleted, completed_spans, SpansCompletedByTails}
pub use Rattle.ir_blocks.specs.judged.Tails.{IsCompleted, completed, CompletedByTails, OneCompleted, CompletedOnce}
pub use Rattle.ir_arena.specs.found.Copies.{entry_of}
pub use Rattle.ir_items.specs.found.Copies.{SpannedFunction, spanned_function, SpannedEntry, spanned_entry, SpannedModule, spanned_module}
pub use Rattle.ir_items.specs.judged.Returned.{IsReturnedFunction, IsReturnedEntry, IsReturned, KeepsFunctionSpans, KeepsEntrySpans, KeepsSpansAt, KeepsModuleSpans, returned_module, returned_module_spans, ReturnedByBodies, OneReturned}
pub use Rattle.ir_items.specs.found.Emitted.{emitted, Run, AreRuns, ranges_of, Holds, ArePartition, Partition}
