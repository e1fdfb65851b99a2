use Rattle.std.proofs.Common.{refl, ap, ◌∙◌, arith}
use Rattle.ir_arena.specs.found.Arenas.{with_value}
use Rattle.ir_arena.proofs.Zipped.{opened, value_read, zip_set}
use Rattle.ir_arena.proofs.spanned.Spanned.value_mut.Goals as goal

pub index_mut-requires : goal.index_mut-requires
index_mut-requires g c = omega (arith, (opened _ _ _ c.self.view_is c.self.invariant).values_length, c.self.inside.values.ok.0, c.requires)

pub returns : goal.returns
returns g c =
    let o = opened _ _ _ c.self.view_is c.self.invariant in (
      (refl, λ w. zip_set c.self.inside.values.items c.self.inside.spans.items c.args.place w ∙ ap (λ es. with_value es c.args.place w) o.pairs),
      record { writes_back = tt; value = value_read _ _ c.args.place c.index_mut.result.now o.values_are c.requires c.index_mut.ensures.value },
    )
