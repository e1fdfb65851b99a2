use Rattle.ir_types.specs.judged.Plain.{inner_view}
use Rattle.module_steps.proofs.WholeLaws.{at_whole, at_flags, at_immediates}
use Rattle.module_type_checks.specs.Known.{tree_in}
use Rattle.module_steps.proofs.info.info_of_whole.Goals as goal

pub layout_of_whole-layout-requires-clause-whole : goal.layout_of_whole-layout-requires-clause-whole
layout_of_whole-layout-requires-clause-whole c = at_whole c.args.context.now c.args.handle (inner_view c.args.inner.now) c.requires.known c.requires.at c.requires.whole

pub layout_of_whole-layout-requires-clause-flags : goal.layout_of_whole-layout-requires-clause-flags
layout_of_whole-layout-requires-clause-flags c =
    at_flags c.args.context.now c.args.handle (inner_view c.args.inner.now) c.whole_flags-flags.result c.requires.known c.requires.at c.whole_flags-flags.ensures c.requires.whole

pub returns : goal.returns
returns c = record {
  flags = at_flags c.args.context.now c.args.handle (inner_view c.args.inner.now) c.whole_flags-flags.result c.requires.known c.requires.at c.whole_flags-flags.ensures c.requires.whole;
  storage = c.layout_of_whole-layout.ensures.storage;
  uniform = c.layout_of_whole-layout.ensures.uniform;
  immediates = at_immediates c.args.context.now c.args.handle (inner_view c.args.inner.now) c.immediates_of_whole.result c.requires.known c.requires.at c.requires.whole (c.immediates_of_whole.ensures (tree_in c.args.context.now));
}
