use Rattle.std.proofs.Common.{codes}
use Rattle.check_json.proofs.Values.{the_member}
use Rattle.check_names.proofs.object.put_entries.Goals as goal

pub returns : goal.returns
returns c = the_member c.args.w.now c.key.new.w c.write_entries.new.w (codes "entry_points") c.in_ok-key.ensures c.in_ok-write_entries.ensures
