use Rattle.std.proofs.Common.{sym, subst, map}
use Rattle.ir_types.specs.judged.Plain.{member_view}
use Rattle.module_steps.proofs.LayoutLaws.{struct_at}
use Rattle.typing_layout.specs.found.Infos.{AreFlags}
use Rattle.module_steps.proofs.info.info_of_struct.Goals as goal

pub uniform_of_struct-requires-clause-flags : goal.uniform_of_struct-requires-clause-flags
uniform_of_struct-requires-clause-flags c = subst (AreFlags c.flags_of_struct-flags.result) (sym c.requires.own.is) (c.flags_of_struct-flags.ensures c.args.span)

pub storage_of_struct-requires-clause-flags : goal.storage_of_struct-requires-clause-flags
storage_of_struct-requires-clause-flags c = subst (AreFlags c.flags_of_struct-flags.result) (sym c.requires.own.is) (c.flags_of_struct-flags.ensures c.args.span)

pub immediates_of_struct-requires-clause-own : goal.immediates_of_struct-requires-clause-own
immediates_of_struct-requires-clause-own c = struct_at c.args.context.now (map member_view c.args.members.now) c.args.span c.args.handle c.requires.own

pub returns : goal.returns
returns c = record {
  flags = subst (AreFlags c.flags_of_struct-flags.result) (sym c.requires.own.is) (c.flags_of_struct-flags.ensures c.args.span);
  storage = c.storage_of_struct.ensures;
  uniform = c.uniform_of_struct.ensures;
  immediates = c.immediates_of_struct.ensures;
}
