use Rattle.std.proofs.Common.{◌≡◌, true}
use Rattle.std.proofs.lemmas.List.Elements.{All-map}
use Rattle.ir_arena.specs.found.Spans.{is_defined_span}
use Rattle.ir_types.specs.found.Faults.{context_of}
use Rattle.ir_types.proofs.with_span.WithSpan.spans.Goals as goal

pub returns-clause-known : goal.returns-clause-known
returns-clause-known g c =
    All-map (λ context. is_defined_span context.0 ≡ true) context_of c.args.self.now.spans.items c.args.self.now.defined
