use Rattle.std.proofs.Common.{◌≡◌, Some, length}
use Rattle.function_statement_checks.specs.Descriptors.{AreDescriptors}
use Rattle.function_statement_checks.proofs.descriptors.marks_of.Given as goal
use Rattle.typing_forms.specs.judged.Resolutions.{types_view}

-- those before are marked
abbrev pub invariant-loop-index : goal.invariant-loop-index
invariant-loop-index l = (length l.marks.items ≡ l.index) × AreDescriptors (types_view l.types) (Some l.fn.declared) l.marks.items
