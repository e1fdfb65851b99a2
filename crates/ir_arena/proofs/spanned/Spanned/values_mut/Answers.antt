use Rattle.std.proofs.Common.{refl, ◌∙◌}
use Rattle.std.specs.List.{zip, refill}
use Rattle.ir_arena.proofs.Zipped.{opened}
use Rattle.ir_arena.proofs.spanned.Spanned.values_mut.Goals as goal

pub returns : goal.returns
returns g c =
    let o = opened _ _ _ c.self.view_is c.self.invariant in (
      (refl, λ w j. zip (refill ((c.self.inside.values.ok.0 ∙ o.values_length) j) (o.values_are j) w) (o.spans_are j)),
      record { writes_back = tt; value = c.as_mut_slice.ensures.value ∙ o.values_are },
    )
