-- A literal with an error is rejected.
use Rattle.module_constants.specs.Laws.{LiteralRefuted}
use Rattle.ir_kinds.specs.judged.Values.{literal_scalar}
use Rattle.module_type_checks.proofs.Scalars.{width_refuted}
use Rattle.typing_layout.specs.declared.type_error.LiteralError.TheVariants as literal_error

pub literal_refuted : LiteralRefuted
literal_refuted k value (literal_error.Width e) wrong ok = width_refuted k (literal_scalar value) e wrong ok
