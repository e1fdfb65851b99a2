use Rattle.std.proofs.Common.{sym, ap, ◌∙◌, arith}
use Rattle.std.specs.List.{enumerate_from}
use Rattle.ir_arena.specs.found.Arenas.{with_values}
use Rattle.ir_arena.specs.judged.Handles.{handles_from}
use Rattle.ir_arena.proofs.Zipped.{handles_numbered, length_with_values, spans_with_values}
use Rattle.ir_arena.proofs.arena.Arena.iter_mut.Goals as goal

-- writes to the values keep the length
pub invariant_of-self-lent : goal.invariant_of-self-lent
invariant_of-self-lent g c = λ w. omega (arith, length_with_values c.self.inside.entries w, c.self.invariant)

pub returns : goal.returns
returns g c = (
  (sym c.new.ensures.name, λ w. ap (λ es. with_values es w) c.self.view_is),
  record {
    writes_back = tt;
    keeps = spans_with_values c.args.self.now;
    values = c.new.ensures.rest ∙ (ap (enumerate_from 0) c.values_mut.ensures.value ∙ (handles_numbered 0 c.self.inside.entries ∙ ap (handles_from 0) c.self.view_is));
  },
)
