use Rattle.std.proofs.Common.{sym, subst}
use Rattle.module_steps.proofs.WholeLaws.{array_at, array_immediates}
use Rattle.module_type_checks.specs.Known.{tree_in}
use Rattle.typing_layout.specs.found.Infos.{AreFlags}
use Rattle.module_steps.proofs.info.info_of_array.Goals as goal

pub uniform_of_array-requires : goal.uniform_of_array-requires
uniform_of_array-requires c = record { own = array_at c.args.context.now c.facts_of-facts.result c.args.handle c.args.base c.args.stride c.args.size c.requires.own c.facts_of-facts.ensures }

pub storage_of_array-requires : goal.storage_of_array-requires
storage_of_array-requires c = record { own = array_at c.args.context.now c.facts_of-facts.result c.args.handle c.args.base c.args.stride c.args.size c.requires.own c.facts_of-facts.ensures }

pub returns : goal.returns
returns c = record {
  flags = subst (AreFlags c.flags_of_array.result) (sym c.requires.own) (c.flags_of_array.ensures (tree_in c.args.context.now c.args.base) c.args.stride c.facts_of-facts.ensures.info.flags);
  storage = c.storage_of_array.ensures;
  uniform = c.uniform_of_array.ensures;
  immediates = array_immediates c.args.context.now c.args.handle c.args.base c.args.stride c.args.size c.facts_of-facts.result.info.immediates_compatibility c.requires.own c.facts_of-facts.ensures.info.immediates;
}
