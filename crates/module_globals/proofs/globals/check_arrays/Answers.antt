use Rattle.std.proofs.Common.{sym, ap, ◌∙◌}
use Rattle.module_globals.proofs.Arrays.{base_there}
use Rattle.module_globals.specs.Contexts.{module_of}
use Rattle.spec_interface.specs.judged.Spaces.{array_base}
use Rattle.module_globals.proofs.globals.check_arrays.Goals as goal

pub inner_of-inner-requires : goal.inner_of-inner-requires
inner_of-inner-requires c =
    base_there (module_of c.args.context.now).types c.requires.back c.args.variable.now.ty c.in-Some.base c.requires.placed.typed (ap array_base c.inner_of.ensures ∙ (sym c.array_base.ensures ∙ c.in-Some.is))
