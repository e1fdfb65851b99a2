use Rattle.module_constants.proofs.FlagLemmas.{info_at}
use Rattle.module_constants.specs.Known.{module_in}
use Rattle.module_constants.proofs.context.is_composed.Goals as goal

pub returns : goal.returns
returns c =
    c.has_constructible.ensures (module_in c.args.context.now).types _
    (info_at (module_in c.args.context.now).types c.args.context.now.infos.now c.args.ty c.index.result c.index-context-index.result c.requires.known.told c.requires.within c.index.ensures.value)
