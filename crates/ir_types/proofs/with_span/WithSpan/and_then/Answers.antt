use Rattle.std.proofs.Common.{◌≡◌, true, map, refl, ap, ◌∙◌}
use Rattle.std.proofs.lemmas.List.{map-append}
use Rattle.std.proofs.lemmas.List.Elements.{All-append}
use Rattle.ir_arena.specs.found.Spans.{is_defined_span}
use Rattle.ir_types.specs.found.Faults.{context_of}
use Rattle.ir_types.proofs.with_span.WithSpan.and_then.Goals as goal

pub invariant_of-made : goal.invariant_of-made
invariant_of-made g c =
    record {
      defined = rw c.in-Ok.ensures.items (All-append (λ context. is_defined_span context.0 ≡ true) c.func-made.result.spans.items c.args.self.spans.items c.func-made.result.defined c.args.self.defined);
    }

pub returns-in-Ok-clause-ok : goal.returns-in-Ok-clause-ok
returns-in-Ok-clause-ok g c =
    (c.func-made.result, c.func-made.ensures, refl, ap (map context_of) c.in-Ok.ensures.items ∙ map-append context_of c.func-made.result.spans.items c.args.self.spans.items)

pub returns-clause-err : goal.returns-clause-err
returns-clause-err g c =
    (c.func-made.result, c.func-made.ensures, record { error = refl; spans = ap (map context_of) c.in-Err.ensures.items })
