use Rattle.std.proofs.Common.{◌<◌, length, true, false, slice_set, subst, ◌∙◌, arith, length-set, length-take}
use Rattle.std.proofs.lemmas.List.Edits.{length-swap}
use Rattle.ir_arena.specs.declared.span.Span.{Span}
use Rattle.ir_arena.specs.found.Spans.{undefined_span}
use Rattle.ir_arena.specs.found.Arenas.{span_at}
use Rattle.ir_arena.specs.found.Retains.{KeepsAt, RetainsFrom}
use Rattle.ir_arena.proofs.Zipped.{value_got, span_got}
use Rattle.ir_arena.proofs.Kept.{so_far-kept, so_far-dropped, so_far-all}
use Rattle.ir_arena.proofs.arena.keep_entries.Goals as goal
use Rattle.ir_arena.proofs.arena.keep_entries.Goals.{then-ask, else-ask}

pub value_mut-requires : goal.value_mut-requires
value_mut-requires g c = omega (arith, c.loop-place-test.true, c.len-place-end.ensures, c.loop-place.invariant.as_many)

pub swap-requires-clause-left : goal.swap-requires-clause-left
swap-requires-clause-left g c = omega (arith, c.loop-place-test.true, c.len-place-end.ensures, c.loop-place.invariant.as_many, c.loop-place.invariant.behind, length-set c.loop-place.entries c.loop-place.place (c.ask.new.value, span_at c.loop-place.entries c.loop-place.place))

pub swap-requires-clause-right : goal.swap-requires-clause-right
swap-requires-clause-right g c = omega (arith, c.loop-place-test.true, c.len-place-end.ensures, c.loop-place.invariant.as_many, length-set c.loop-place.entries c.loop-place.place (c.ask.new.value, span_at c.loop-place.entries c.loop-place.place))

pub loop-place-preserved : goal.loop-place-preserved
loop-place-preserved g c =
    let l = c.loop-place in
    let d : g.row.T.Denot × Span = (c.value_mut.result.now, undefined_span) in
    let new : g.row.T.Denot × Span = (c.ask.new.value, span_at l.entries l.place) in
    let within : l.place < length l.entries = omega (arith, c.loop-place-test.true, c.len-place-end.ensures, l.invariant.as_many) in
    let was = value_got l.entries l.place c.value_mut.result.now c.value_mut.ensures.value d in
    record {
      callable = c.ask.ensures.callable;
      behind = elim c.if-ask.branch [ then-ask w ↦ omega arith | else-ask w ↦ omega arith ];
      as_many = elim c.if-ask.branch [
        | then-ask w ↦ rw (w.entries-is, w.swap.ensures) (length-swap (slice_set l.entries l.place new) l.kept l.place ∙ (length-set l.entries l.place new ∙ l.invariant.as_many))
        | else-ask w ↦ rw w.entries-is (length-set l.entries l.place new ∙ l.invariant.as_many)
      ];
      so_far = elim c.if-ask.branch [
        | then-ask w ↦ rw (w.entries-is, w.kept-is, w.swap.ensures)
            (so_far-kept (KeepsAt g.F.FnMut) (RetainsFrom (KeepsAt g.F.FnMut) c.args.keep.now 0 c.args.entries.now) l.keep c.ask.new.keep l.kept l.place l.entries d new l.invariant.behind within
            (subst (λ x. KeepsAt g.F.FnMut l.keep l.place x true c.ask.new.keep c.ask.new.value) was (rw (w.if-ask.true, c.at.ensures) at c.ask.ensures.asked)) (span_got l.entries l.place within d) l.invariant.so_far)
        | else-ask w ↦ rw (w.entries-is, w.kept-is)
            (so_far-dropped (KeepsAt g.F.FnMut) (RetainsFrom (KeepsAt g.F.FnMut) c.args.keep.now 0 c.args.entries.now) l.keep c.ask.new.keep l.kept l.place l.entries d new l.invariant.behind within
            (subst (λ x. KeepsAt g.F.FnMut l.keep l.place x false c.ask.new.keep c.ask.new.value) was (rw (w.if-ask.false, c.at.ensures) at c.ask.ensures.asked)) l.invariant.so_far)
      ];
    }

pub returns-clause-in_range : goal.returns-clause-in_range
returns-clause-in_range g c = rw c.truncate.ensures (omega (arith, length-take c.loop-place.kept c.loop-place.entries, c.loop-place.invariant.as_many))

pub returns-clause-kept : goal.returns-clause-kept
returns-clause-kept g c =
    let l = c.loop-place in
    rw c.truncate.ensures
    (so_far-all (KeepsAt g.F.FnMut) (RetainsFrom (KeepsAt g.F.FnMut) c.args.keep.now 0 c.args.entries.now) l.keep l.kept l.place l.entries (omega (arith, c.loop-place-test.false, c.len-place-end.ensures, l.invariant.as_many)) l.invariant.so_far)
