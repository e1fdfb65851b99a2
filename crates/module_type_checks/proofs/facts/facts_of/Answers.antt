use Rattle.std.proofs.Common.{refl}
use Rattle.ir_types.specs.judged.Plain.{inner_view}
use Rattle.module_type_checks.proofs.Known.{facts_from}
use Rattle.module_type_checks.proofs.facts.facts_of.Goals as goal

pub returns : goal.returns
returns c =
    facts_from c.args.context.now c.args.ty (inner_view c.type_at-inner.result.now) c.index-layout.result.now c.index.result c.index-context-index.result _ c.requires.known c.requires.before c.type_at-inner.ensures
    c.index-layout.ensures c.index.ensures.value refl refl refl c.uniform_alignment.ensures c.is_struct.ensures
