use Rattle.std.proofs.lemmas.Map.Text.{btree_set_updates_text}
use Rattle.std.proofs.Common.{true, string_bytes}
use Rattle.function_whole.proofs.entry_names.note_key.Goals as goal

pub returns-in-Ok-clause-noted : goal.returns-in-Ok-clause-noted
returns-in-Ok-clause-noted c = btree_set_updates_text (string_bytes c.args.key) c.args.keys.now c.insert.new.self true c.in-Ok.ensures.updates
