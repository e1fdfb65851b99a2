use Rattle.std.proofs.Common.{map}
use Rattle.ir_types.specs.judged.Plain.{member_view}
use Rattle.module_type_checks.proofs.Sources.{other_present, sources_answer, named_within, where_none}
use Rattle.module_type_checks.proofs.blends.check_sources.Goals as goal

pub check_pair-requires-clause-first : goal.check_pair-requires-clause-first
check_pair-requires-clause-first c = named_within c.args.context.now c.args.members.now _ 0 c.in-Some.first (rw c.in-Some.is at c.in_ok-first.ensures) c.requires.named

pub check_pair-requires-clause-second : goal.check_pair-requires-clause-second
check_pair-requires-clause-second c = named_within c.args.context.now c.args.members.now _ 1 c.in-Some-2.second (rw c.in-Some-2.is at c.in_ok-second.ensures) c.requires.named

pub returns : goal.returns
returns c =
    sources_answer c.args.context.now (map member_view c.args.members.now) c.in-Some.first c.in-Some-2.second c.check_pair.result c.in_ok-check_locations.ensures (rw c.in-Some.is at c.in_ok-first.ensures)
    (rw c.in-Some-2.is at c.in_ok-second.ensures) c.check_pair.ensures

pub returns-in_default : goal.returns-in_default
returns-in_default c = other_present (map member_view c.args.members.now) c.in_ok-check_locations.ensures c.requires.has (where_none (map member_view c.args.members.now) 0 c.in_ok-first.field-0 c.in_ok-first.ensures c.in_default.not-Some)
