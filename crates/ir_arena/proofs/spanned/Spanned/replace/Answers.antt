use Rattle.std.proofs.Common.{ap, ◌∙◌, arith}
use Rattle.ir_arena.specs.found.Arenas.{with_value}
use Rattle.ir_arena.proofs.Zipped.{opened, zip_set}
use Rattle.ir_arena.proofs.spanned.Spanned.replace.Goals as goal

pub index_mut-requires : goal.index_mut-requires
index_mut-requires g c = omega (arith, (opened _ _ _ c.self.view_is c.self.invariant).values_length, c.self.inside.values.ok.0, c.requires)

pub returns : goal.returns
returns g c =
    zip_set c.self.inside.values.items c.self.inside.spans.items c.args.place c.args.value ∙ ap (λ es. with_value es c.args.place c.args.value) c.self.view_is
