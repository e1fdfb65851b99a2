use Rattle.std.proofs.Common.{◌*◌, ◌%◌, ◌^◌, w64, arith}
use Rattle.std.proofs.lemmas.Nat.Bits.{bit_at_set_same}
use Rattle.function_varyings.proofs.MarkLaws.{bit_kept}
use Rattle.function_varyings.proofs.marks.with_number.Goals as goal

pub returns-clause-kept : goal.returns-clause-kept
returns-clause-kept c = λ n among. (among.0, bit_kept c.args.word.bits (1 * 2 ^ (c.args.number % 64) % 18446744073709551616) (n % 64) among.1)

pub returns-clause-added : goal.returns-clause-added
returns-clause-added c = (c.requires, bit_at_set_same w64 c.args.word.bits (c.args.number % 64) (omega arith))
