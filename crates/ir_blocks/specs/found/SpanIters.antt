-- The items of iterators over statements with their spans.
use Rattle.std.specs.Prelude.{List}
use Rattle.std.specs.Borrow.{Bor, MutBor}
use Rattle.std.specs.List.{zip}
use Rattle.std.specs.Slice.Iter.{iter_mut_rest}
use Rattle.ir_types.specs.IrArena.{Span}
use Rattle.ir_blocks.specs.declared.statements.Statement.{Statement}
use Rattle.ir_blocks.specs.declared.span_iter.SpanIterMut.{SpanIterMut}

-- a reference to a statement, with its span
abbrev pub with_span : Bor Statement × Bor Span → Statement × Span
with_span p = (p.0.now, p.1.now)

abbrev pub with_span_to_change : MutBor Statement × MutBor Span → Statement × Span
with_span_to_change p = (p.0.now, p.1.now)

-- the remaining statements, with their spans
abbrev pub pairs_to_come : SpanIterMut → List (Statement × Span)
pairs_to_come it = zip (iter_mut_rest it.statements) (iter_mut_rest it.spans)
