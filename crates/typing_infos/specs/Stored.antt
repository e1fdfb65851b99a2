-- The stored pairs, few or many.
use Rattle.std.specs.Prelude.{List}
use Rattle.spec_expressions.specs.judged.Pairs.{SamplingPair}
use Rattle.spec_expressions.specs.declared.sampling.SamplingKey.{SamplingKey}
use Rattle.typing_infos.specs.declared.sampled.StoredPairs.{StoredPairs}
use Rattle.typing_infos.specs.declared.sampled.StoredPairs.TheVariants as pairs
use Rattle.typing_infos.specs.declared.sampled.StoredKeys.{StoredKeys}
use Rattle.typing_infos.specs.declared.sampled.StoredKeys.TheVariants as keys

abbrev pub pairs_stored : StoredPairs → List SamplingPair
pairs_stored (pairs.Few list) = list.items
pairs_stored (pairs.Many table) = table.value.pairs

abbrev pub keys_stored : StoredKeys → List SamplingKey
keys_stored (keys.Few list) = list.items
keys_stored (keys.Many table) = table.value.keys.items
