use Rattle.typing_layout.proofs.Rounds.{next_fits, next_is_least}
use Rattle.typing_layout.proofs.alignment.Alignment.round_up.Goals as goal

pub overflow_add-result : goal.overflow_add-result
overflow_add-result c = next_fits c.args.self.now c.get-bytes.result c.args.n c.get-bytes.ensures.value c.get-bytes.ensures.in_range.0 c.if-rest-eq0.false c.requires

pub returns-else-rest-eq0 : goal.returns-else-rest-eq0
returns-else-rest-eq0 c = next_is_least c.args.self.now c.get-bytes.result c.args.n c.get-bytes.ensures.value c.get-bytes.ensures.in_range.0 c.if-rest-eq0.false
