-- The pairs of a list.
use Rattle.std.specs.Prelude.{List, ◌++◌}
use Rattle.spec_expressions.specs.judged.Pairs.{SamplingPair}
use Rattle.typing_summaries.specs.declared.list.PairList.{PairList}

abbrev pub listed : PairList → List SamplingPair
listed l = l.few.items ++ l.more
